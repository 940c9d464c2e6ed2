use Rattle.ciborium_ll_grammar.proofs.StrictFaultLaws.{no_fault}
use Rattle.ciborium_ll_laws.proofs.faults.no_fault.Goals as goal

pub returns : goal.returns
returns c = no_fault
