use Rattle.std.proofs.Common.{ℕ, ◌≡◌, List, length}
use Rattle.cbor_view.specs.Pairs.{IsFirstPair, IsKey, IsPairOf}
use Rattle.cbor_view.proofs.search.find.Given as goal

-- No key of the pairs that were passed is the key that is sought.
abbrev pub invariant-pairs : goal.invariant-pairs
invariant-pairs l = record {
  levels : l.left.depth ≡ l.fn.pairs.depth;
  there : (value : List ℕ) → IsFirstPair (IsKey l.fn.key) l.fn.pairs.depth l.left.rest.now value
      → IsFirstPair (IsKey l.fn.key) l.fn.pairs.depth l.fn.pairs.rest.now value;
  back : (other value : List ℕ) → IsPairOf l.fn.pairs.depth l.fn.pairs.rest.now other value → IsKey l.fn.key other
      → IsPairOf l.fn.pairs.depth l.left.rest.now other value;
}

abbrev pub decreases-pairs : goal.decreases-pairs
decreases-pairs l = length l.left.rest.now
