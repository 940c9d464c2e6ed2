use Rattle.cbor_view.proofs.OpenLaws.{checked_title, opened}
use Rattle.cbor_view.proofs.item.Item.open.Goals as goal

pub unreachable-requires : goal.unreachable-requires
unreachable-requires c =
    checked_title c.args.self.now.depth c.args.self.now.bytes.now c.args.self.now.is c.in-None.ensures

pub returns : goal.returns
returns c =
    opened c.args.self.now.depth c.args.self.now.bytes.now c.in-Some.found.1.now c.in-Some.found.0 c.args.self.now.is
    c.in-Some.ensures
