use Rattle.cbor_deterministic.proofs.NoneLaws.{item_place}
use Rattle.cbor_deterministic.proofs.view.Item.parse.Goals as goal

pub refusal-requires : goal.refusal-requires
refusal-requires c =
    item_place c.args.depth c.args.bytes.now c.in-Err.stop.why c.in-Err.stop.left c.in-Err.ensures.fails
