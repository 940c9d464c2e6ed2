use Rattle.cbor_copier.proofs.ExactLaws.{end_exact, fault_exact}
use Rattle.cbor_copier.proofs.laws.exact_answers.Goals as goal

pub returns : goal.returns
returns c = record { ended = end_exact; fault = fault_exact }
