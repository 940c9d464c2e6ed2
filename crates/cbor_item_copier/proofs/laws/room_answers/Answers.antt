use Rattle.cbor_item_copier.proofs.EndLaws.{room_answers}
use Rattle.cbor_item_copier.proofs.laws.room_answers.Goals as goal

pub returns : goal.returns
returns c = room_answers
