use Rattle.std.proofs.Common.{arith}
use Rattle.cbor_view.specs.Views.{closed}
use Rattle.cbor_view.proofs.OpenLaws.{as_header, same_contents, same_header}
use Rattle.cbor_view.proofs.NestLaws.{map_level, map_break, map_pairs}
use Rattle.ciborium_ll_grammar.specs.declared.hdr.Header.TheVariants as h
use Rattle.cbor_view.proofs.item.Item.entries.Goals as goal

pub without_break-pairs-requires : goal.without_break-pairs-requires
without_break-pairs-requires c =
    let o = as_header c.args.self.now.depth c.args.self.now.bytes.now c.open-header.result.0 (h.Map c.in-Map.due)
    c.open-header.result.1.now c.open-header.ensures c.in-Map.is in
    map_break c.args.self.now.depth c.in-Map.due c.open-header.result.1.now o.completes

pub overflow_sub-result : goal.overflow_sub-result
overflow_sub-result c =
    let o = as_header c.args.self.now.depth c.args.self.now.bytes.now c.open-header.result.0 (h.Map c.in-Map.due)
    c.open-header.result.1.now c.open-header.ensures c.in-Map.is in
    let l = map_level c.args.self.now.depth c.in-Map.due c.open-header.result.1.now o.completes in
    omega arith

pub invariant_of-result : goal.invariant_of-result
invariant_of-result c =
    let o = as_header c.args.self.now.depth c.args.self.now.bytes.now c.open-header.result.0 (h.Map c.in-Map.due)
    c.open-header.result.1.now c.open-header.ensures c.in-Map.is in
    record {
      shallow = omega (arith, c.args.self.now.shallow);
      are = map_pairs c.args.self.now.depth c.in-Map.due c.open-header.result.1.now c.without_break-pairs.result.now
          o.completes c.without_break-pairs.ensures;
    }

pub returns-in-Map : goal.returns-in-Map
returns-in-Map c =
    let o = as_header c.args.self.now.depth c.args.self.now.bytes.now c.open-header.result.0 (h.Map c.in-Map.due)
    c.open-header.result.1.now c.open-header.ensures c.in-Map.is in
    let l = map_level c.args.self.now.depth c.in-Map.due c.open-header.result.1.now o.completes in (
      same_contents c.args.self.now.depth c.args.self.now.bytes.now (h.Map c.in-Map.due) c.open-header.result.1.now
          (closed c.in-Map.due c.without_break-pairs.result.now) o c.without_break-pairs.ensures,
      omega arith,
    )

pub returns-in_default : goal.returns-in_default
returns-in_default c n b =
    c.in_default.not-Map n (same_header c.args.self.now.depth c.args.self.now.bytes.now c.open-header.result.1.now
    c.open-header.result.0 (h.Map n) c.open-header.ensures b)
