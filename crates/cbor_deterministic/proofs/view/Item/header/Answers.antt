use Rattle.cbor_deterministic.proofs.ViewLaws.{opened_by}
use Rattle.cbor_deterministic.proofs.view.Item.header.Goals as goal

pub returns : goal.returns
returns c =
    opened_by c.args.self.now.depth c.args.self.now.bytes.now c.open.result.1.now c.open.result.0 c.open.ensures
