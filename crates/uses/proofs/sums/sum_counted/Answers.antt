use Rattle.std.proofs.Common.{rules, ◌≡◌, refl, arith, add-one}
use mir.Syntax.{w64}
use mir.Val.{SFits, to_z}
use Rattle.std.proofs.lemmas.Int.{to_z-of_z}
use Rattle.ciborium_ll.specs.Types.Header.TheVariants as h
use Rattle.ciborium_ll.proofs.DecodingLaws.{exit_is, MovesOn-none, MovesOn-then}
use Rattle.uses.proofs.SumLaws.{reads_none, reads_more, stops_counted}
use Rattle.uses.proofs.sums.sum_counted.Goals as goal

pub numbers-init : goal.numbers-init
numbers-init g c = record {
  reads = reads_none g.R.Read c.args.decoder.now;
  moves_on = MovesOn-none g.R.Read c.args.decoder.now;
}

-- A break is no integer.
pub returns-in-None-clause-sums : goal.returns-in-None-clause-sums
returns-in-None-clause-sums g c =
    let pulled = rw (c.in-None.is, c.offset-place.ensures.same) at c.in_ok-sum.ensures.adds in
    record {
      count = c.numbers._read;
      total = to_z w64 c.numbers.total-bits;
      between = c.numbers.decoder;
      goes_on = omega (arith, c.numbers-test.true);
      reads = c.numbers.invariant.reads;
      stops = record {
        header = h.Break;
        pulled = pulled;
        place = c.offset-place.ensures.value;
        no_integer = λ number is. is;
        no_end = λ closable. absurd cc;
      };
    }

pub returns-in_err-sum-clause-sums : goal.returns-in_err-sum-clause-sums
returns-in_err-sum-clause-sums g c =
    let same = exit_is c.from_residual.result c.in_err-sum.field-0.0 c.from_residual.ensures.1 in
    rw same (record {
      count = c.numbers._read;
      total = to_z w64 c.numbers.total-bits;
      between = c.numbers.decoder;
      goes_on = omega (arith, c.numbers-test.true);
      reads = c.numbers.invariant.reads;
      stops = stops_counted g.R.Read (to_z w64 c.numbers.total-bits) c.numbers.decoder c.next_sum.new.decoder
          c.in_err-sum.field-0.0 (rw c.offset-place.ensures.same at c.in_err-sum.ensures.adds);
    })

pub numbers-preserved : goal.numbers-preserved
numbers-preserved g c =
    let adds = rw (c.in-Some.is, c.offset-place.ensures.same) at c.in_ok-sum.ensures.adds in
    let fits : SFits w64 c.in-Some.sum = search rules in
    let moves_on = rw c.offset-place.ensures.same at c.in_ok-sum.ensures.moves_on in
    record {
      reads = simp (to_z-of_z, add-one)
          (reads_more g.R.Read c.args.decoder.now c.numbers.decoder c.next_sum.new.decoder c.numbers._read
          (to_z w64 c.numbers.total-bits) c.in-Some.sum c.numbers.invariant.reads adds moves_on.steady);
      moves_on = MovesOn-then g.R.Read _ _ _ c.numbers.invariant.moves_on moves_on;
    }

pub returns-clause-sums : goal.returns-clause-sums
returns-clause-sums g c = record {
  count = c.numbers._read;
  between = c.numbers.decoder;
  reads = c.numbers.invariant.reads;
  ends = (omega (arith, c.numbers-test.false, c.numbers.auto._read-end), refl);
}
