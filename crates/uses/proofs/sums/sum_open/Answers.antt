use Rattle.std.proofs.Common.{rules, ◌≡◌, ◌<◌, suc}
use mir.Syntax.{w64}
use mir.Val.{SFits, to_z}
use Rattle.std.proofs.lemmas.Int.{to_z-of_z}
use Rattle.ciborium_ll.proofs.DecodingLaws.{exit_is, MovesOn-none, MovesOn-then}
use Rattle.uses.proofs.SumLaws.{reads_none, reads_more, adds_rises}
use Rattle.uses.proofs.sums.sum_open.Goals as goal

pub numbers-init : goal.numbers-init
numbers-init g c = record {
  reads = (0, reads_none g.R.Read c.args.decoder.now);
  moves_on = MovesOn-none g.R.Read c.args.decoder.now;
}

pub numbers-smaller : goal.numbers-smaller
numbers-smaller g c =
    let adds = rw c.in-Some.is at c.in_ok-sum.ensures.adds in
    let rises : c.numbers.decoder.offset < c.next_sum.new.decoder.offset =
    adds_rises g.R.Read (to_z w64 c.numbers.total-bits) c.in-Some.sum _ _ adds in
    search rules

pub numbers-preserved : goal.numbers-preserved
numbers-preserved g c =
    let adds = rw c.in-Some.is at c.in_ok-sum.ensures.adds in
    let fits : SFits w64 c.in-Some.sum = search rules in
    let moves_on = c.in_ok-sum.ensures.moves_on in
    record {
      reads = (
        suc c.numbers.invariant.reads.0,
        simp to_z-of_z
            (reads_more g.R.Read c.args.decoder.now c.numbers.decoder c.next_sum.new.decoder c.numbers.invariant.reads.0
            (to_z w64 c.numbers.total-bits) c.in-Some.sum c.numbers.invariant.reads.1 adds moves_on.steady),
      );
      moves_on = MovesOn-then g.R.Read _ _ _ c.numbers.invariant.moves_on moves_on;
    }

pub returns-in-None-clause-sums : goal.returns-in-None-clause-sums
returns-in-None-clause-sums g c =
    let pulled = rw c.in-None.is at c.in_ok-sum.ensures.adds in
    record {
      count = c.numbers.invariant.reads.0;
      between = c.numbers.decoder;
      reads = c.numbers.invariant.reads.1;
      ends = pulled;
    }

pub returns-in_err-sum-clause-sums : goal.returns-in_err-sum-clause-sums
returns-in_err-sum-clause-sums g c =
    let same = exit_is c.from_residual.result c.in_err-sum.field-0.0 c.from_residual.ensures.1 in
    rw same (record {
      count = c.numbers.invariant.reads.0;
      total = to_z w64 c.numbers.total-bits;
      between = c.numbers.decoder;
      goes_on = tt;
      reads = c.numbers.invariant.reads.1;
      stops = c.in_err-sum.ensures.adds;
    })
