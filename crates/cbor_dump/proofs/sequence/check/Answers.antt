use Rattle.std.proofs.Common.{length, Err, arith, add-one}
use Rattle.ciborium_ll.proofs.DecodingLaws.{MovesOn-none, MovesOn-then}
use Rattle.cbor_skip.specs.Skipping.{ReadsItem, SkipsItem, allowed_by}
use Rattle.cbor_dump.proofs.ItemRows.{items_counted}
use Rattle.cbor_dump.proofs.SequenceLaws.{check_exactly, check_failures, check_number, check_told, ends, none_read}
use Rattle.cbor_dump.proofs.SequenceLaws.{one_more}
use Rattle.cbor_dump.proofs.sequence.check.Goals as goal

pub items-init : goal.items-init
items-init g c = record {
  reads = rw c.offset-start.ensures.same (none_read g.R.Read c.args.depth c.args.decoder.now);
  start = c.offset-start.ensures.value;
  moves_on = rw c.offset-start.ensures.same (MovesOn-none g.R.Read c.args.decoder.now);
}

-- Each item takes at least one byte, so there are at most as many items as the offset counts bytes.
pub overflow_add-items : goal.overflow_add-items
overflow_add-items g c =
    let item : ReadsItem g.R.Read c.args.depth c.items.decoder c.skip_item.new.decoder =
    rw c.offset-place.ensures.same at c.in-Ok.ensures.skipped.skipped in
    let some = items_counted (allowed_by c.items.decoder) c.args.depth 1 item.item item.is_item in
    let reads = c.items.invariant.reads in
    let all = items_counted (allowed_by c.args.decoder.now) c.args.depth c.items.items reads.bytes reads.are_items in
    omega (arith, some, all, item.passed.offset, reads.passed.offset)

pub items-smaller : goal.items-smaller
items-smaller g c =
    let item : ReadsItem g.R.Read c.args.depth c.items.decoder c.skip_item.new.decoder =
    rw c.offset-place.ensures.same at c.in-Ok.ensures.skipped.skipped in
    let some = items_counted (allowed_by c.items.decoder) c.args.depth 1 item.item item.is_item in
    omega (arith, some, item.passed.offset)

pub items-preserved : goal.items-preserved
items-preserved g c =
    let item : ReadsItem g.R.Read c.args.depth c.items.decoder c.skip_item.new.decoder =
    rw c.offset-place.ensures.same at c.in-Ok.ensures.skipped.skipped in
    record {
      reads = rw add-one (one_more g.R.Read c.args.depth c.items.items _ _ _ c.items.invariant.reads item);
      start = c.items.invariant.start;
      moves_on = MovesOn-then g.R.Read _ _ _ c.items.invariant.moves_on
          (rw c.offset-place.ensures.same at c.in-Ok.ensures.skipped.moves_on);
    }

pub returns-in-Err : goal.returns-in-Err
returns-in-Err g c =
    let old = c.args.decoder.now in
    let depth = c.args.depth in
    let room = length c.args.buffer.now in
    let new = c.offset.new.self in
    let result = c.ended.result in
    let fails : SkipsItem g.R.Read depth room c.items.decoder (Err c.in-Err.error) new =
    rw (c.offset.ensures.same) (rw (c.offset-place.ensures.same, c.items.auto.buffer) at c.in-Err.ensures.skipped.skipped) in
    let checks =
    ends g.R.Read depth room c.items.items c.offset-start.result c.offset-place.result c.offset.result old
    c.items.decoder new c.in-Err.error result c.items.invariant.reads fails c.ended.ensures c.items.invariant.start
    c.offset-place.ensures.value
    (rw c.offset.ensures.same c.offset.ensures.value) in
    record {
      checks = checks;
      told = λ due ready. check_told g.R.Read depth room old due ready new result checks;
      exactly = λ due ready. check_exactly g.R.Read depth room old due ready new result checks;
      number = λ due count ready items. check_number g.R.Read depth room old due ready count items new result checks;
      failures = check_failures g.R.Read depth room old new result checks;
      moves_on = rw c.offset.ensures.same (MovesOn-then g.R.Read _ _ _ c.items.invariant.moves_on
          (rw c.offset-place.ensures.same at c.in-Err.ensures.skipped.moves_on));
    }
