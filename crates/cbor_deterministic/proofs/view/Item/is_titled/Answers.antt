use Rattle.cbor_deterministic.proofs.TitleRuns.{told}
use Rattle.cbor_deterministic.proofs.ViewLaws.{titled_told, titled_untold}
use Rattle.cbor_deterministic.proofs.view.Item.is_titled.Goals as goal

pub returns-then-is_same_header : goal.returns-then-is_same_header
returns-then-is_same_header c =
    titled_told c.args.self.now.depth c.args.self.now.bytes.now c.open-header.result.1.now c.args.body.now
    c.open-header.result.0 c.args.title c.open-header.ensures c.requires c.is_same.result
    (told c.is_same_header.result c.if-is_same_header.true c.is_same_header.ensures) c.is_same.ensures

pub returns-else-is_same_header : goal.returns-else-is_same_header
returns-else-is_same_header c =
    titled_untold c.args.self.now.depth c.args.self.now.bytes.now c.open-header.result.1.now c.args.body.now
    c.open-header.result.0 c.args.title c.open-header.ensures c.requires c.is_same_header.result
    c.if-is_same_header.false c.is_same_header.ensures
