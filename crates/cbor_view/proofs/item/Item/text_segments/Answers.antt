use Rattle.ciborium_ll_grammar.specs.declared.hdr.Header.TheVariants as h
use Rattle.ciborium_ll_grammar.specs.Strings.{Text}
use Rattle.cbor_view.proofs.OpenLaws.{as_header, same_header}
use Rattle.cbor_view.proofs.SegmentLaws.{text_string_item, has_texts, segmented, string_header}
use Rattle.cbor_view.proofs.item.Item.text_segments.Goals as goal

pub invariant_of-result : goal.invariant_of-result
invariant_of-result c =
    let o = as_header c.args.self.now.depth c.args.self.now.bytes.now c.open-header.result.0
    (h.Text c.in-Text.field-0) c.open-header.result.1.now c.open-header.ensures c.in-Text.is in
    record {
      are = has_texts c.args.self.now.bytes.now
          (text_string_item c.args.self.now.depth c.in-Text.field-0 c.args.self.now.bytes.now
          c.open-header.result.1.now o);
    }

pub returns-in-Text : goal.returns-in-Text
returns-in-Text c =
    let o = as_header c.args.self.now.depth c.args.self.now.bytes.now c.open-header.result.0
    (h.Text c.in-Text.field-0) c.open-header.result.1.now c.open-header.ensures c.in-Text.is in
    segmented Text c.args.self.now.bytes.now
    (text_string_item c.args.self.now.depth c.in-Text.field-0 c.args.self.now.bytes.now c.open-header.result.1.now o)

pub returns-in_default : goal.returns-in_default
returns-in_default c bodies s =
    string_header Text c.args.self.now.bytes.now bodies s (λ len b.
    c.in_default.not-Text len (same_header c.args.self.now.depth c.args.self.now.bytes.now c.open-header.result.1.now
    c.open-header.result.0 (h.Text len) c.open-header.ensures b))
