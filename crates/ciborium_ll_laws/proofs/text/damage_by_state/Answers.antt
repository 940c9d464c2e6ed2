use Rattle.ciborium_ll_text.proofs.StateLaws.{none_goes_on, some_goes_on}
use Rattle.ciborium_ll_laws.proofs.text.damage_by_state.Goals as goal

pub returns-clause-none : goal.returns-clause-none
returns-clause-none c = none_goes_on

pub returns-clause-some : goal.returns-clause-some
returns-clause-some c = some_goes_on
