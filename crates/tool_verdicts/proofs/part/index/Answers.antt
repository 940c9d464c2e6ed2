use Rattle.std.proofs.Common.{rules, ◌≡◌, ◌-◌, ◌++◌, ◌∷◌, [], length, Err, Some, arith, length-append, refl, sym, ap, ◌∙◌}
use Rattle.cbor_skip.specs.Skipping.{ReadsItem, SkipsItem, allowed_by}
use Rattle.cbor_dump.proofs.ItemRows.{items_counted}
use Rattle.tool_verdicts.specs.Parts.{IsBelow, enough, stops}
use Rattle.tool_verdicts.specs.declared.part.Span.{Span}
use Rattle.tool_verdicts.proofs.PartLaws.{adds_more, adds_none, below_by, ends_same, least_of, read_items, spans_none}
use Rattle.tool_verdicts.proofs.PartLaws.{spans_one_more, up_to}
use Rattle.tool_verdicts.proofs.part.index.Goals as goal

pub items-init : goal.items-init
items-init g c = record {
  few = least_of c.args.most;
  places = [];
  counted = refl;
  reads = rw c.offset-start.ensures.same (spans_none g.R.Read c.args.depth c.args.decoder.now);
  adds = adds_none (g.S.Spans.taken c.args.spans.now);
  start = c.offset-start.ensures.value;
  buffer = search rules;
}

pub returns-in-Err : goal.returns-in-Err
returns-in-Err g c =
    let new = c.offset-stop.new.self in
    let i = c.items.invariant in
    let fails : SkipsItem g.R.Read c.args.depth 512 c.items.decoder (Err c.in-Err.error) new =
    rw c.offset-stop.ensures.same (rw (c.offset-place.ensures.same, i.buffer) at c.in-Err.ensures.skipped.skipped) in
    let below : IsBelow c.args.most c.items.items = below_by c.args.most c.items.items (search rules) i.few in
    record {
      spans = i.places;
      between = c.items.decoder;
      reads = i.reads;
      adds = i.adds;
      ends = stops c.in-Err.error (rw i.counted below) fails
          (ends_same c.in-Err.error _ _ _ _ _ _ _ _ c.verdict_at.result c.verdict_at.ensures (sym i.counted)
          (omega (arith, i.start, c.offset-place.ensures.value, i.reads.passed.offset)) c.offset-place.ensures.value
          (rw c.offset-stop.ensures.same c.offset-stop.ensures.value));
    }

pub returns-in-Err-span : goal.returns-in-Err-span
returns-in-Err-span g c =
    let i = c.items.invariant in
    let item : ReadsItem g.R.Read c.args.depth c.items.decoder c.offset.new.self =
    rw c.offset.ensures.same (rw c.offset-place.ensures.same at c.in_default.ensures.skipped.skipped) in
    let last : Span = record { offset = c.offset-place.result; len = c.offset.result - c.offset-place.result } in
    record {
      spans = i.places;
      last = last;
      reads = spans_one_more g.R.Read c.args.depth c.args.decoder.now c.items.decoder c.offset.new.self i.places last
          i.reads item c.offset-place.ensures.value
          (rw c.offset.ensures.same (omega (arith, c.offset.ensures.value, c.offset-place.ensures.value)));
      adds = rw c.in-Err-span.ensures.refused i.adds;
    }

pub overflow_add-items : goal.overflow_add-items
overflow_add-items g c =
    let i = c.items.invariant in
    let item : ReadsItem g.R.Read c.args.depth c.items.decoder c.skip_item.new.decoder =
    rw c.offset-place.ensures.same at c.in_default.ensures.skipped.skipped in
    let some = items_counted (allowed_by c.items.decoder) c.args.depth 1 item.item item.is_item in
    let reads = read_items g.R.Read c.args.depth c.args.decoder.now c.items.decoder i.places i.reads in
    let all =
    items_counted (allowed_by c.args.decoder.now) c.args.depth (length i.places) reads.bytes reads.are_items in
    omega (arith, some, all, i.counted, item.passed.offset, reads.passed.offset)

pub items-smaller : goal.items-smaller
items-smaller g c =
    let item : ReadsItem g.R.Read c.args.depth c.items.decoder c.skip_item.new.decoder =
    rw c.offset-place.ensures.same at c.in_default.ensures.skipped.skipped in
    let some = items_counted (allowed_by c.items.decoder) c.args.depth 1 item.item item.is_item in
    rw c.offset.ensures.same (omega (arith, some, item.passed.offset))

pub items-preserved : goal.items-preserved
items-preserved g c =
    let i = c.items.invariant in
    let item : ReadsItem g.R.Read c.args.depth c.items.decoder c.offset.new.self =
    rw c.offset.ensures.same (rw c.offset-place.ensures.same at c.in_default.ensures.skipped.skipped) in
    let last : Span = record { offset = c.offset-place.result; len = c.offset.result - c.offset-place.result } in
    record {
      few = up_to c.args.most c.items.items (below_by c.args.most c.items.items (search rules) i.few);
      places = i.places ++ last ∷ [];
      counted = omega (arith, i.counted, length-append i.places (last ∷ []));
      reads = spans_one_more g.R.Read c.args.depth c.args.decoder.now c.items.decoder c.offset.new.self i.places last
          i.reads item c.offset-place.ensures.value
          (rw c.offset.ensures.same (omega (arith, c.offset.ensures.value, c.offset-place.ensures.value)));
      adds = adds_more (g.S.Spans.taken c.args.spans.now) (g.S.Spans.taken c.items.spans)
          (g.S.Spans.taken c.span.new.self) i.places (last ∷ []) i.adds c.in_default-span.ensures.adds;
      start = i.start;
      buffer = search rules;
    }

pub returns : goal.returns
returns g c =
    let i = c.items.invariant in
    let is : c.args.most ≡ Some c.items.items = search rules in
    let bytes : c.offset-end.result - c.offset-start.result ≡ length i.reads.bytes =
    omega (arith, i.start, c.offset-end.ensures.value, i.reads.passed.offset) in
    record {
      spans = i.places;
      between = c.items.decoder;
      reads = i.reads;
      adds = i.adds;
      ends = enough (is ∙ ap Some (sym i.counted)) c.offset-end.ensures.same (cc (bytes, i.counted));
    }
