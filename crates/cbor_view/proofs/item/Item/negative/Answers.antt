use Rattle.cbor_view.proofs.OpenLaws.{as_header, negative_item, whole_header}
use Rattle.ciborium_ll_grammar.specs.declared.hdr.Header.TheVariants as h
use Rattle.cbor_view.proofs.item.Item.negative.Goals as goal

pub returns-in-Negative : goal.returns-in-Negative
returns-in-Negative c =
    negative_item c.args.self.now.depth c.in-Negative.number c.args.self.now.bytes.now c.open-header.result.1.now
    (as_header c.args.self.now.depth c.args.self.now.bytes.now c.open-header.result.0 (h.Negative c.in-Negative.number)
    c.open-header.result.1.now
    c.open-header.ensures c.in-Negative.is)

pub returns-in_default : goal.returns-in_default
returns-in_default c n p =
    c.in_default.not-Negative n (whole_header c.args.self.now.depth c.args.self.now.bytes.now c.open-header.result.1.now
    c.open-header.result.0 (h.Negative n) c.open-header.ensures p)
