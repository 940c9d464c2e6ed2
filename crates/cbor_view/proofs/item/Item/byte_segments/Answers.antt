use Rattle.ciborium_ll_grammar.specs.declared.hdr.Header.TheVariants as h
use Rattle.ciborium_ll_grammar.specs.Strings.{Bytes}
use Rattle.cbor_view.proofs.OpenLaws.{as_header, same_header}
use Rattle.cbor_view.proofs.SegmentLaws.{bytes_string, has_segments, segmented, string_header}
use Rattle.cbor_view.proofs.item.Item.byte_segments.Goals as goal

pub invariant_of-result : goal.invariant_of-result
invariant_of-result c =
    let o = as_header c.args.self.now.depth c.args.self.now.bytes.now c.open-header.result.0
    (h.Bytes c.in-Bytes.field-0) c.open-header.result.1.now c.open-header.ensures c.in-Bytes.is in
    record {
      are = has_segments Bytes c.args.self.now.bytes.now
          (bytes_string c.args.self.now.depth c.in-Bytes.field-0 c.args.self.now.bytes.now
          c.open-header.result.1.now o);
    }

pub returns-in-Bytes : goal.returns-in-Bytes
returns-in-Bytes c =
    let o = as_header c.args.self.now.depth c.args.self.now.bytes.now c.open-header.result.0
    (h.Bytes c.in-Bytes.field-0) c.open-header.result.1.now c.open-header.ensures c.in-Bytes.is in
    segmented Bytes c.args.self.now.bytes.now
    (bytes_string c.args.self.now.depth c.in-Bytes.field-0 c.args.self.now.bytes.now c.open-header.result.1.now o)

pub returns-in_default : goal.returns-in_default
returns-in_default c bodies s =
    string_header Bytes c.args.self.now.bytes.now bodies s (λ len b.
    c.in_default.not-Bytes len (same_header c.args.self.now.depth c.args.self.now.bytes.now c.open-header.result.1.now
    c.open-header.result.0 (h.Bytes len) c.open-header.ensures b))
