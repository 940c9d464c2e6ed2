use Rattle.std.proofs.Common.{length, Err, Ok, refl, arith, add-one, subst, ℕ}
use Rattle.ciborium_ll.proofs.DecodingLaws.{MovesOn-none, MovesOn-then}
use Rattle.cbor_skip.specs.Skipping.{ReadsItem, SkipsItem}
use Rattle.cbor_dump.specs.Sequences.{ReadsItems}
use Rattle.cbor_dump.proofs.CountedLaws.{counted, counted_exactly, counted_stops, counted_told}
use Rattle.cbor_dump.proofs.SequenceLaws.{none_read, one_more}
use Rattle.cbor_dump.proofs.counted.skip_items.Goals as goal

pub items-init : goal.items-init
items-init g c = record {
  few = omega arith;
  reads = none_read g.R.Read c.args.depth c.args.decoder.now;
  none = λ zero. refl;
  moves_on = MovesOn-none g.R.Read c.args.decoder.now;
}

pub items-preserved : goal.items-preserved
items-preserved g c =
    let item : ReadsItem g.R.Read c.args.depth c.items.decoder c.skip_item.new.decoder =
    c.in_default.ensures.skipped.skipped in
    record {
      few = omega (arith, c.items-test.true);
      reads = rw add-one (one_more g.R.Read c.args.depth c.items.skipped _ _ _ c.items.invariant.reads item);
      none = λ zero. absurd (omega (arith, zero, c.items-test.true));
      moves_on = MovesOn-then g.R.Read _ _ _ c.items.invariant.moves_on c.in_default.ensures.skipped.moves_on;
    }

pub returns-in-Err : goal.returns-in-Err
returns-in-Err g c =
    let old = c.args.decoder.now in
    let depth = c.args.depth in
    let room = length c.args.buffer.now in
    let new = c.skip_item.new.decoder in
    let fails : SkipsItem g.R.Read depth room c.items.decoder (Err c.in-Err.error) new =
    rw c.items.auto.buffer at c.in-Err.ensures.skipped.skipped in
    let stops = counted_stops g.R.Read depth room c.args.count c.items.skipped old c.items.decoder new c.in-Err.error
    (omega (arith, c.items-test.true)) c.items.invariant.reads fails in
    record {
      exactly = λ due ready. counted_exactly g.R.Read depth room old due ready c.args.count new (Err c.in-Err.error) stops;
      told = λ due ready. counted_told g.R.Read depth room old due ready c.args.count new (Err c.in-Err.error) stops;
      skipped = stops;
      none = λ zero. absurd (omega (arith, zero, c.items-test.true));
      moves_on = MovesOn-then g.R.Read _ _ _ c.items.invariant.moves_on c.in-Err.ensures.skipped.moves_on;
    }

pub returns : goal.returns
returns g c =
    let old = c.args.decoder.now in
    let depth = c.args.depth in
    let room = length c.args.buffer.now in
    let reads = subst (λ (n : ℕ). ReadsItems g.R.Read depth n old c.items.decoder)
    (omega (arith, c.items.invariant.few, c.items-test.false)) c.items.invariant.reads in
    let counts = counted g.R.Read depth c.args.count old c.items.decoder reads in
    record {
      exactly = λ due ready. counted_exactly g.R.Read depth room old due ready c.args.count c.items.decoder (Ok tt) counts;
      told = λ due ready. counted_told g.R.Read depth room old due ready c.args.count c.items.decoder (Ok tt) counts;
      skipped = counts;
      none = c.items.invariant.none;
      moves_on = c.items.invariant.moves_on;
    }
