use Rattle.cbor_copier.proofs.EndLaws.{one_end}
use Rattle.cbor_copier.proofs.ReadLaws.{one_answer}
use Rattle.cbor_copier.proofs.laws.one_answer.Goals as goal

pub returns : goal.returns
returns c = record { answer = one_answer; end = one_end }
