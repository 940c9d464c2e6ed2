use Rattle.std.proofs.Common.{arith}
use Rattle.cbor_view.proofs.OpenLaws.{as_header, tag_level, tag_checked, same_header}
use Rattle.ciborium_ll_grammar.specs.declared.hdr.Header.TheVariants as h
use Rattle.cbor_view.proofs.item.Item.tag.Goals as goal

pub invariant_of-item : goal.invariant_of-item
invariant_of-item c =
    let o = as_header c.args.self.now.depth c.args.self.now.bytes.now c.open-header.result.0 (h.Tag c.in-Tag.number)
    c.open-header.result.1.now c.open-header.ensures c.in-Tag.is in
    record {
      shallow = omega (arith, c.args.self.now.shallow);
      is = tag_checked c.args.self.now.depth c.in-Tag.number c.open-header.result.1.now o.completes;
    }

pub overflow_sub-item : goal.overflow_sub-item
overflow_sub-item c =
    let o = as_header c.args.self.now.depth c.args.self.now.bytes.now c.open-header.result.0 (h.Tag c.in-Tag.number)
    c.open-header.result.1.now c.open-header.ensures c.in-Tag.is in
    let l = tag_level c.args.self.now.depth c.in-Tag.number c.open-header.result.1.now o.completes in
    omega arith

pub returns-in-Tag : goal.returns-in-Tag
returns-in-Tag c =
    let o = as_header c.args.self.now.depth c.args.self.now.bytes.now c.open-header.result.0 (h.Tag c.in-Tag.number)
    c.open-header.result.1.now c.open-header.ensures c.in-Tag.is in
    let l = tag_level c.args.self.now.depth c.in-Tag.number c.open-header.result.1.now o.completes in
    (o, omega arith)

pub returns-in_default : goal.returns-in_default
returns-in_default c n b =
    c.in_default.not-Tag n (same_header c.args.self.now.depth c.args.self.now.bytes.now c.open-header.result.1.now
    c.open-header.result.0 (h.Tag n) c.open-header.ensures b)
