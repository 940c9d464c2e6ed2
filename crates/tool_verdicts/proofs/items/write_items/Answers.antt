use Rattle.std.proofs.Common.{rules, Err, add-one, arith, sym, subst}
use Rattle.ciborium_ll.proofs.DecodingLaws.{MovesOn-none, MovesOn-then}
use Rattle.cbor_skip.specs.Skipping.{ReadsItem, SkipsItem, allowed_by}
use Rattle.cbor_json.specs.Reading.{OnReading}
use Rattle.cbor_dump.proofs.ItemRows.{items_counted}
use Rattle.cbor_dump.proofs.SequenceLaws.{none_read, one_more}
use Rattle.tool_verdicts.specs.Lines.{more, none}
use Rattle.tool_verdicts.specs.Parts.{IsBelow}
use Rattle.tool_verdicts.proofs.PartLaws.{below_by, least_of, up_to}
use Rattle.tool_verdicts.proofs.LineLaws.{lines_end, lines_fail, reads_end}
use Rattle.tool_verdicts.proofs.items.write_items.Goals as goal

pub items-init : goal.items-init
items-init g c = record {
  few = least_of c.args.most;
  reads = none_read g.R.Read c.args.depth c.args.decoder.now;
  lines = none;
  moves_on = MovesOn-none g.R.Read c.args.decoder.now;
}

pub returns-in-Err-clause-reads : goal.returns-in-Err-clause-reads
returns-in-Err-clause-reads g c =
    let new = c.offset.new.self in
    let fails : OnReading (λ answer. SkipsItem g.R.Read c.args.depth 64 c.items.decoder answer new)
    (Err c.in-Err.error) =
    subst (λ x. OnReading (λ answer. SkipsItem g.R.Read c.args.depth 64 c.items.decoder answer x)
    (Err c.in-Err.error)) (sym c.offset.ensures.same)
    (subst (λ x. OnReading (λ answer. SkipsItem g.R.Read c.args.depth 64 x answer c.write_line.new.decoder)
    (Err c.in-Err.error)) c.offset-place.ensures.same c.in-Err.ensures.reads.reads) in
    let below : IsBelow c.args.most c.items.shown = below_by c.args.most c.items.shown (search rules) c.items.invariant.few in
    reads_end g.R.Read c.args.depth c.args.most c.items.shown c.offset-place.result c.offset.result
    c.args.decoder.now c.items.decoder new c.in-Err.error c.ending_at.result below c.items.invariant.reads fails c.ending_at.ensures
    c.offset-place.ensures.value (rw c.offset.ensures.same c.offset.ensures.value)

-- Each item takes at least one byte.
pub items-smaller : goal.items-smaller
items-smaller g c =
    let item : ReadsItem g.R.Read c.args.depth c.items.decoder c.write_line.new.decoder =
    rw c.offset-place.ensures.same at c.in_default.ensures.reads.reads in
    let some = items_counted (allowed_by c.items.decoder) c.args.depth 1 item.item item.is_item in
    omega (arith, some, item.passed.offset)

pub items-preserved : goal.items-preserved
items-preserved g c =
    let item : ReadsItem g.R.Read c.args.depth c.items.decoder c.write_line.new.decoder =
    rw c.offset-place.ensures.same at c.in_default.ensures.reads.reads in
    record {
      few = up_to c.args.most c.items.shown (below_by c.args.most c.items.shown (search rules) c.items.invariant.few);
      reads = rw add-one (one_more g.R.Read c.args.depth c.items.shown _ _ _ c.items.invariant.reads item);
      lines = rw add-one (more c.items.invariant.lines (rw c.offset-place.ensures.same at c.in_default.ensures.writes));
      moves_on = MovesOn-then g.R.Read _ _ _ c.items.invariant.moves_on
          (rw c.offset-place.ensures.same at c.write_line.ensures.reads.moves_on);
    }

pub returns-in-Err-clause-writes : goal.returns-in-Err-clause-writes
returns-in-Err-clause-writes g c =
    rw c.offset.ensures.same (lines_end _ g.R.Read g.W.Write c.args.form c.args.depth c.args.most c.items.shown
    c.offset-place.result c.offset.result _ _ _ c.in-Err.error c.ending_at.result c.items.invariant.lines
    (rw c.offset-place.ensures.same at c.in-Err.ensures.writes) c.ending_at.ensures)

-- ---- how the decoder is left

pub returns-in-Err-clause-moves_on : goal.returns-in-Err-clause-moves_on
returns-in-Err-clause-moves_on g c =
    rw c.offset.ensures.same (MovesOn-then g.R.Read _ _ _ c.items.invariant.moves_on
    (rw c.offset-place.ensures.same at c.write_line.ensures.reads.moves_on))

pub returns-in-Err-clause-failures : goal.returns-in-Err-clause-failures
returns-in-Err-clause-failures g c =
    rw c.offset.ensures.same (lines_fail c.in-Err.error _ _ _ _ _ c.ending_at.result c.ending_at.ensures
    c.items.invariant.reads.passed.failures
    (rw c.offset-place.ensures.same at c.in-Err.ensures.reads.failures))

pub overflow_add-shown : goal.overflow_add-shown
overflow_add-shown g c =
    let item : ReadsItem g.R.Read c.args.depth c.items.decoder c.write_line.new.decoder =
    rw c.offset-place.ensures.same at c.in_default.ensures.reads.reads in
    let some = items_counted (allowed_by c.items.decoder) c.args.depth 1 item.item item.is_item in
    let reads = c.items.invariant.reads in
    let all = items_counted (allowed_by c.args.decoder.now) c.args.depth c.items.shown reads.bytes reads.are_items in
    omega (arith, some, all, item.passed.offset, reads.passed.offset)
