use Rattle.ciborium_ll_recode.proofs.StrictRunLaws.{titles, unchanged, as_long}
use Rattle.ciborium_ll.proofs.laws.strict.strict_run.Goals as goal

pub returns-clause-unchanged : goal.returns-clause-unchanged
returns-clause-unchanged c = unchanged

pub returns-clause-titles : goal.returns-clause-titles
returns-clause-titles c = titles

pub returns-clause-as_long : goal.returns-clause-as_long
returns-clause-as_long c = as_long
