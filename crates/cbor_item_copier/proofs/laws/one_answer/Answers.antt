use Rattle.cbor_item_copier.proofs.ReadLaws.{one_answer, one_end}
use Rattle.cbor_item_copier.proofs.laws.one_answer.Goals as goal

pub returns : goal.returns
returns c = record { answer = one_answer; end = one_end }
