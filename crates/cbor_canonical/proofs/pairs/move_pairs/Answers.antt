use Rattle.std.proofs.Common.{arith, refl}
use Rattle.std.proofs.lemmas.Result.{err_from_is_err_and}
use Rattle.cbor_canonical.proofs.PlaceRuns.{moved_more}
use Rattle.cbor_canonical.proofs.RoomPairs.{moved_fits}
use Rattle.cbor_canonical.proofs.pairs.move_pairs.Goals as goal

pub pairs-preserved : goal.pairs-preserved
pairs-preserved c =
    let i = c.pairs.invariant in
    let r = c.requires in
    record {
      until = omega (arith, c.pairs-test.true);
      start = omega (arith, i.start, c.in_ok-place.ensures.within.0);
      within = c.in_ok-place.ensures.within.1;
      wrote = moved_more c.args.out.now c.pairs.out c.put_saved.new.out c.args.at c.args.end c.pairs.place
          c.in_ok-place.place c.pairs.next c.args.done c.args.spans.now c.save_bytes.new.spans _
          c.in_ok-save_bytes.ensures.saved.1 (omega (arith, c.pairs-test.true)) r.held r.start r.end refl
          (rw (c.saturating_sub-from.ensures, c.saturating_sub-to.ensures) at c.in_ok-place.ensures.put)
          c.in_ok-save_bytes.ensures.saved.0 i.wrote;
    }

pub returns-in_err-place-clause-room : goal.returns-in_err-place-clause-room
returns-in_err-place-clause-room c =
    let p = err_from_is_err_and c.from_residual-in_err-place.result c.from_residual-in_err-place.ensures.1 in
    let i = c.pairs.invariant in
    let r = c.requires in
    rw p.1 (λ all short. absurd (omega (
      arith,
      moved_fits c.args.out.now c.pairs.out c.args.at c.args.end c.pairs.place c.pairs.next c.args.done
          c.args.spans.now c.save_bytes.new.spans _ c.in_ok-save_bytes.ensures.saved.1
          (omega (arith, c.pairs-test.true)) r.held r.start r.end i.within refl i.wrote all short,
      c.in_err-place.ensures.room,
      c.saturating_sub-from.ensures,
      c.saturating_sub-to.ensures,
      c.pairs.auto.out,
      r.end,
    )))
