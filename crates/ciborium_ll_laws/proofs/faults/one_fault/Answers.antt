use Rattle.ciborium_ll_laws.proofs.OneFault.{one_fault, one_answer}
use Rattle.ciborium_ll_laws.proofs.faults.one_fault.Goals as goal

pub returns-clause-point : goal.returns-clause-point
returns-clause-point c = one_fault

pub returns-clause-answer : goal.returns-clause-answer
returns-clause-answer c = one_answer
