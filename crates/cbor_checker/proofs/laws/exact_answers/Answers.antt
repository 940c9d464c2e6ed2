use Rattle.cbor_checker.proofs.ReadLaws.{end_exact, none_exact}
use Rattle.cbor_checker.proofs.laws.exact_answers.Goals as goal

pub returns : goal.returns
returns c = record { ended = end_exact; fault = none_exact }
