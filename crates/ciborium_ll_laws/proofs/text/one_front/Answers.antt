use Rattle.ciborium_ll_text.proofs.TextLaws.{some_front, one_front, front_of_valid}
use Rattle.ciborium_ll_laws.proofs.text.one_front.Goals as goal

pub returns-clause-exists : goal.returns-clause-exists
returns-clause-exists c = some_front

pub returns-clause-one : goal.returns-clause-one
returns-clause-one c = one_front

pub returns-clause-valid : goal.returns-clause-valid
returns-clause-valid c = front_of_valid
