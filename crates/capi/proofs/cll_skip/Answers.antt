use Rattle.std.proofs.Common.{rules}
use Rattle.capi.proofs.PullLaws.{code_exactly, code_short}
use Rattle.capi.proofs.cll_skip.Goals as goal

pub returns-clause-skipped : goal.returns-clause-skipped
returns-clause-skipped c = λ shallow. (c.skip_or_due.result, search rules, c.skip_or_due.ensures.skipped)

pub returns-clause-exactly : goal.returns-clause-exactly
returns-clause-exactly c = λ shallow.
    code_exactly c.skip_or_due.result _ (search rules) c.skip_or_due.ensures.exactly

pub returns-clause-due : goal.returns-clause-due
returns-clause-due c = λ shallow. code_short c.skip_or_due.result _ (search rules) c.skip_or_due.ensures.due
