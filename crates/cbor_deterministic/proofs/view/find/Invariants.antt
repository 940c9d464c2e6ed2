use Rattle.std.proofs.Common.{ℕ, List}
use Rattle.cbor_deterministic.specs.Views.{HasPairs, IsPairOf}
use Rattle.cbor_deterministic.proofs.view.find.Given as goal

-- The pairs that are left are the last pairs of the map. The key has the same values among them as among all pairs.
abbrev pub invariant-pairs : goal.invariant-pairs
invariant-pairs l = record {
  are : ∥ HasPairs l.order l.depth l.due l.rest ∥₁;
  there : (value : List ℕ) → IsPairOf l.order l.depth l.rest l.key value
      → IsPairOf l.order l.depth l.fn.pairs l.key value;
  back : (value : List ℕ) → IsPairOf l.order l.depth l.fn.pairs l.key value
      → IsPairOf l.order l.depth l.rest l.key value;
}

abbrev pub decreases-pairs : goal.decreases-pairs
decreases-pairs l = l.due
