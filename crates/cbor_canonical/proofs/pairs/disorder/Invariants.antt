use Rattle.std.proofs.Common.{length, ◌-◌, ◌<◌}
use Rattle.std.specs.List.{AllAdjacentBelow}
use Rattle.cbor_canonical.specs.Places.{entries_at}
use Rattle.cbor_canonical.specs.Runs.{IsBefore}
use Rattle.cbor_canonical.proofs.pairs.disorder.Given as goal

abbrev pub invariant-spans : goal.invariant-spans
invariant-spans l = record {
  from : 0 < l.at;
  up : AllAdjacentBelow (IsBefore l.order) (entries_at l.out l.spans) l.at;
}

abbrev pub decreases-spans : goal.decreases-spans
decreases-spans l = length l.spans - l.at
