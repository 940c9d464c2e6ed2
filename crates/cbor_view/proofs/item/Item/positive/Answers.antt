use Rattle.cbor_view.proofs.OpenLaws.{as_header, positive_item, whole_header}
use Rattle.ciborium_ll_grammar.specs.declared.hdr.Header.TheVariants as h
use Rattle.cbor_view.proofs.item.Item.positive.Goals as goal

pub returns-in-Positive : goal.returns-in-Positive
returns-in-Positive c =
    positive_item c.args.self.now.depth c.in-Positive.number c.args.self.now.bytes.now c.open-header.result.1.now
    (as_header c.args.self.now.depth c.args.self.now.bytes.now c.open-header.result.0 (h.Positive c.in-Positive.number)
    c.open-header.result.1.now
    c.open-header.ensures c.in-Positive.is)

pub returns-in_default : goal.returns-in_default
returns-in_default c n p =
    c.in_default.not-Positive n (whole_header c.args.self.now.depth c.args.self.now.bytes.now c.open-header.result.1.now
    c.open-header.result.0 (h.Positive n) c.open-header.ensures p)
