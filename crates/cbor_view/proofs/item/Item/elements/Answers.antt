use Rattle.std.proofs.Common.{arith}
use Rattle.cbor_view.specs.Views.{closed}
use Rattle.cbor_view.proofs.OpenLaws.{as_header, same_contents, same_header}
use Rattle.cbor_view.proofs.NestLaws.{array_level, array_break, array_items}
use Rattle.ciborium_ll_grammar.specs.declared.hdr.Header.TheVariants as h
use Rattle.cbor_view.proofs.item.Item.elements.Goals as goal

pub without_break-items-requires : goal.without_break-items-requires
without_break-items-requires c =
    let o = as_header c.args.self.now.depth c.args.self.now.bytes.now c.open-header.result.0 (h.Array c.in-Array.due)
    c.open-header.result.1.now c.open-header.ensures c.in-Array.is in
    array_break c.args.self.now.depth c.in-Array.due c.open-header.result.1.now o.completes

pub overflow_sub-result : goal.overflow_sub-result
overflow_sub-result c =
    let o = as_header c.args.self.now.depth c.args.self.now.bytes.now c.open-header.result.0 (h.Array c.in-Array.due)
    c.open-header.result.1.now c.open-header.ensures c.in-Array.is in
    let l = array_level c.args.self.now.depth c.in-Array.due c.open-header.result.1.now o.completes in
    omega arith

pub invariant_of-result : goal.invariant_of-result
invariant_of-result c =
    let o = as_header c.args.self.now.depth c.args.self.now.bytes.now c.open-header.result.0 (h.Array c.in-Array.due)
    c.open-header.result.1.now c.open-header.ensures c.in-Array.is in
    record {
      shallow = omega (arith, c.args.self.now.shallow);
      are = array_items c.args.self.now.depth c.in-Array.due c.open-header.result.1.now c.without_break-items.result.now
          o.completes c.without_break-items.ensures;
    }

pub returns-in-Array : goal.returns-in-Array
returns-in-Array c =
    let o = as_header c.args.self.now.depth c.args.self.now.bytes.now c.open-header.result.0 (h.Array c.in-Array.due)
    c.open-header.result.1.now c.open-header.ensures c.in-Array.is in
    let l = array_level c.args.self.now.depth c.in-Array.due c.open-header.result.1.now o.completes in (
      same_contents c.args.self.now.depth c.args.self.now.bytes.now (h.Array c.in-Array.due) c.open-header.result.1.now
          (closed c.in-Array.due c.without_break-items.result.now) o c.without_break-items.ensures,
      omega arith,
    )

pub returns-in_default : goal.returns-in_default
returns-in_default c n b =
    c.in_default.not-Array n (same_header c.args.self.now.depth c.args.self.now.bytes.now c.open-header.result.1.now
    c.open-header.result.0 (h.Array n) c.open-header.ensures b)
