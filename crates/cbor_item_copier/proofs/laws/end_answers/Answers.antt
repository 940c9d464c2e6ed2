use Rattle.cbor_item_copier.proofs.EndLaws.{fault_answers, room_end_answers, short_answers}
use Rattle.cbor_item_copier.proofs.laws.end_answers.Goals as goal

pub returns : goal.returns
returns c = record { short = short_answers; room = room_end_answers; fault = fault_answers }
