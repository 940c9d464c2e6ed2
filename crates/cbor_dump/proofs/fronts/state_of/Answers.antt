use Rattle.cbor_dump.proofs.PartLaws.{front_state}
use Rattle.cbor_dump.proofs.fronts.state_of.Goals as goal

pub returns : goal.returns
returns c = front_state c.args.bytes.now _ _ c.text_front.result.1 c.text_front.ensures.front c.text_front.ensures.state
