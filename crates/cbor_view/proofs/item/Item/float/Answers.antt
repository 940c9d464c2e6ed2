use Rattle.cbor_view.proofs.OpenLaws.{as_header, float_item, whole_header}
use Rattle.ciborium_ll_grammar.specs.declared.hdr.Header.TheVariants as h
use Rattle.cbor_view.proofs.item.Item.float.Goals as goal

pub returns-in-Float : goal.returns-in-Float
returns-in-Float c =
    float_item c.args.self.now.depth c.in-Float.float c.args.self.now.bytes.now c.open-header.result.1.now
    (as_header c.args.self.now.depth c.args.self.now.bytes.now c.open-header.result.0 (h.Float c.in-Float.float)
    c.open-header.result.1.now
    c.open-header.ensures c.in-Float.is)

pub returns-in_default : goal.returns-in_default
returns-in_default c n p =
    c.in_default.not-Float n (whole_header c.args.self.now.depth c.args.self.now.bytes.now c.open-header.result.1.now
    c.open-header.result.0 (h.Float n) c.open-header.ensures p)
