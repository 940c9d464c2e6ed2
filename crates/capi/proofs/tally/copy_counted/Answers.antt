use Rattle.std.proofs.Common.{rules, refl, sym, ◌≡◌, ◌∙◌, ◌+◌, ℕ, suc, arith, subst}
use Rattle.ciborium_ll.specs.Types.Decoder.{Decoder}
use Rattle.ciborium_ll.specs.Recoding.{CopiesRun}
use Rattle.ciborium_ll.specs.Sides.{sides}
use Rattle.ciborium_ll_recode.proofs.CopyLaws.{run_none, run_behind, copies_all}
use Rattle.capi.proofs.CountLaws.{spelled_room}
use Rattle.capi.proofs.RunCopies.{runs_joined}
use Rattle.capi.proofs.tally.copy_counted.Goals as goal

pub elements-init : goal.elements-init
elements-init g c =
    let old = sides c.args.decoder.now c.args.writer.now in
    let so_far = run_none g.R.Read g.W.Write old in
    let room = c.bytes_left-room.ensures in
    record {
      so_far = so_far;
      most = omega arith;
      behind = sym c.requires.start;
      spelled = omega (arith, spelled_room g.R.Read g.W.Write 0 old _ _ _ so_far room room);
      target = refl;
    }

pub elements-preserved : goal.elements-preserved
elements-preserved g c =
    let old = sides c.args.decoder.now c.args.writer.now in
    let now = sides c.elements.decoder c.elements.writer in
    let next = c.in-Ok.ensures.copied in
    let so_far = subst (λ (d : Decoder g.row.R.Denot). CopiesRun g.R.Read g.W.Write
    (c.elements.tally.elements + c.in-Ok.copied) old (sides d c.copy_next.new.writer)) (sym c.offset-tally.ensures.same)
    (runs_joined g.R.Read g.W.Write c.elements.tally.elements c.in-Ok.copied old now
    (sides c.copy_next.new.decoder c.copy_next.new.writer) c.elements.invariant.so_far next.2) in
    record {
      so_far = so_far;
      most = omega (arith, next.1, c.elements-test.true);
      behind = search rules;
      spelled = omega (
        arith,
        spelled_room g.R.Read g.W.Write _ old _ _ _ so_far c.bytes_left-room.ensures
            c.bytes_left.ensures,
      );
      target = c.copy_next.ensures.target ∙ c.elements.invariant.target;
    }

pub returns-in-Err-clause-copied : goal.returns-in-Err-clause-copied
returns-in-Err-clause-copied g c =
    let old = sides c.args.decoder.now c.args.writer.now in
    let now = sides c.elements.decoder c.elements.writer in
    let behind = run_behind g.R.Read g.W.Write c.args.count c.elements.tally.elements old now c.elements-test.true
    c.elements.invariant.so_far in
    rw c.elements.auto.buffer at c.in-Err.ensures.copied c.args.count c.elements.tally.elements old behind

pub returns-in-Err-clause-counted : goal.returns-in-Err-clause-counted
returns-in-Err-clause-counted g c =
    let old = sides c.args.decoder.now c.args.writer.now in
    let now = sides c.elements.decoder c.elements.writer in
    let kept = c.elements.invariant in
    let done = c.elements.tally.elements in
    let behind = run_behind g.R.Read g.W.Write (suc done) done old now (omega arith) kept.so_far in
    let alone = run_behind g.R.Read g.W.Write 1 0 now now (omega arith) (run_none g.R.Read g.W.Write now) in
    record {
      between = now;
      run = kept.so_far;
      behind = kept.behind;
      counted = kept.spelled;
      ends = (
        c.elements-test.true,
        rw c.elements.auto.buffer at c.in-Err.ensures.copied (suc done) done old behind,
        rw c.elements.auto.buffer at c.in-Err.ensures.copied 1 0 now alone,
      );
    }

pub returns-clause-copied : goal.returns-clause-copied
returns-clause-copied g c =
    let old = sides c.args.decoder.now c.args.writer.now in
    let now = sides c.elements.decoder c.elements.writer in
    let all : c.elements.tally.elements ≡ c.args.count = omega
    (arith, c.elements-test.false, c.elements.invariant.most) in
    copies_all g.R.Read g.W.Write c.args.count old now
    (subst (λ (n : ℕ). CopiesRun g.R.Read g.W.Write n old now) all c.elements.invariant.so_far)

pub returns-clause-counted : goal.returns-clause-counted
returns-clause-counted g c =
    let now = sides c.elements.decoder c.elements.writer in
    let kept = c.elements.invariant in
    let all : c.elements.tally.elements ≡ c.args.count = omega
    (arith, c.elements-test.false, kept.most) in
    record {
      between = now;
      run = kept.so_far;
      behind = kept.behind;
      counted = kept.spelled;
      ends = (all, refl {a = now});
    }
