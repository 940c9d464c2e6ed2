use Rattle.cbor_deterministic.proofs.ViewLaws.{checked_head, opened}
use Rattle.cbor_deterministic.proofs.view.Item.open.Goals as goal

pub unreachable-requires : goal.unreachable-requires
unreachable-requires c =
    checked_head c.args.self.now.depth c.args.self.now.bytes.now c.in-Err.field-0 c.args.self.now.is c.in-Err.ensures

pub returns : goal.returns
returns c =
    opened c.args.self.now.depth c.args.self.now.bytes.now c.in-Ok.found.1.now c.in-Ok.found.0 c.args.self.now.is
    c.in-Ok.ensures
