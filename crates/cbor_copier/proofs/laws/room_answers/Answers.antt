use Rattle.cbor_copier.proofs.ReadLaws.{room_answers}
use Rattle.cbor_copier.proofs.laws.room_answers.Goals as goal

pub returns : goal.returns
returns c = room_answers
