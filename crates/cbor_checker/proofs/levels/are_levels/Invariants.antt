use Rattle.std.proofs.Common.{IsSome}
use Rattle.cbor_checker.specs.Snapshots.{levels_in}
use Rattle.cbor_checker.proofs.levels.are_levels.Given as goal

abbrev pub invariant-loop-at : goal.invariant-loop-at
invariant-loop-at l =
    record {
      so_far : IsSome (levels_in l.at l.kinds l.counts);
    }
