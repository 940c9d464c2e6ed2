use Rattle.cbor_view.proofs.OpenLaws.{as_header, simple_item, whole_header}
use Rattle.ciborium_ll_grammar.specs.declared.hdr.Header.TheVariants as h
use Rattle.cbor_view.proofs.item.Item.simple.Goals as goal

pub returns-in-Simple : goal.returns-in-Simple
returns-in-Simple c =
    simple_item c.args.self.now.depth c.in-Simple.number c.args.self.now.bytes.now c.open-header.result.1.now
    (as_header c.args.self.now.depth c.args.self.now.bytes.now c.open-header.result.0 (h.Simple c.in-Simple.number)
    c.open-header.result.1.now
    c.open-header.ensures c.in-Simple.is)

pub returns-in_default : goal.returns-in_default
returns-in_default c n p =
    c.in_default.not-Simple n (whole_header c.args.self.now.depth c.args.self.now.bytes.now c.open-header.result.1.now
    c.open-header.result.0 (h.Simple n) c.open-header.ensures p)
