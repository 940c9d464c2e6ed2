use Rattle.cbor_checker.proofs.EndLaws.{fault_answers, short_answers}
use Rattle.cbor_checker.proofs.laws.end_answers.Goals as goal

pub returns : goal.returns
returns c = record { short = short_answers; fault = fault_answers }
