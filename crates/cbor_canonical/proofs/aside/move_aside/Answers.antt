use Rattle.std.proofs.Common.{◌≡◌, arith, refl}
use Rattle.std.proofs.lemmas.Result.{err_from_is_err_and, MatchResult-weaker}
use Rattle.cbor_canonical.proofs.AsideRuns.{aside_done, aside_fits, aside_more, back_room}
use Rattle.cbor_canonical.proofs.aside.move_aside.Goals as goal

pub pairs-preserved : goal.pairs-preserved
pairs-preserved c =
    let i = c.pairs.invariant in
    let r = c.requires in
    let w = c.in_ok-place.ensures.copied in
    record {
      until = omega (arith, c.pairs-test.true);
      start = omega (arith, i.start, w.from);
      within = w.within;
      wrote = aside_more c.args.out.now c.args.at c.args.end c.args.done c.args.spans.now r.held r.start r.end
          c.pairs.next (omega (arith, c.pairs-test.true)) c.pairs.out c.copy_up.new.out c.pairs.place
          c.in_ok-place.place _ refl w i.wrote;
    }

pub returns-in_err-place-clause-room : goal.returns-in_err-place-clause-room
returns-in_err-place-clause-room c =
    let p = err_from_is_err_and c.from_residual.result c.from_residual.ensures.1 in
    let i = c.pairs.invariant in
    let r = c.requires in
    rw p.1 (λ all short. omega (
      arith,
      aside_fits c.args.out.now c.args.at c.args.end c.args.done c.args.spans.now r.held r.start r.end c.pairs.next
          (omega (arith, c.pairs-test.true)) c.pairs.out c.pairs.place _ i.within refl i.wrote all short,
      c.in_err-place.ensures.room,
      c.pairs.auto.out,
    ))

pub returns-clause-moved : goal.returns-clause-moved
returns-clause-moved c =
    let i = c.pairs.invariant in
    let r = c.requires in
    let all_done : c.pairs.next ≡ c.args.done = omega (arith, i.until, c.pairs-test.false) in
    MatchResult-weaker c.copy_down.result c.copy_down.ensures.copied
    (λ after w all. aside_done c.args.out.now c.pairs.out c.args.at c.args.end c.pairs.place c.args.done
    c.args.spans.now r.start r.end i.start i.within all (rw all_done at (i.wrote all)) after c.copy_down.new.out w)
    (λ stop none. none)

pub returns-clause-room : goal.returns-clause-room
returns-clause-room c =
    let i = c.pairs.invariant in
    let r = c.requires in
    let all_done : c.pairs.next ≡ c.args.done = omega (arith, i.until, c.pairs-test.false) in
    back_room c.args.out.now c.pairs.out c.args.at c.args.end c.pairs.place c.args.done c.args.spans.now r.start r.end
    i.start i.within (rw all_done at i.wrote) c.copy_down.result c.copy_down.ensures.room
