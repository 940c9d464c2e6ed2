use Rattle.std.proofs.Common.{Some, length}
use Rattle.ciborium_ll_grammar.specs.declared.hdr.Header.TheVariants as h
use Rattle.cbor_deterministic.proofs.ViewLaws.{with_contents}
use Rattle.cbor_deterministic.proofs.view.Item.get_text.Goals as goal

pub returns-clause-found : goal.returns-clause-found
returns-clause-found c =
    with_contents c.args.self.now.order c.args.self.now.depth c.args.self.now.bytes.now
    (h.Text (Some (length c.args.key.now))) c.get_titled.result c.as_bytes.result.now c.args.key.now
    c.as_bytes.ensures.value c.get_titled.ensures.found
