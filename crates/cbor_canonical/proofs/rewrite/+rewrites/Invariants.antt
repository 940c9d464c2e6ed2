use Rattle.std.proofs.Common.{◌+◌, ◌*◌, ◌-◌, ◌≤◌, length}
use Rattle.cbor_canonical.specs.Room.{Grows}
use Rattle.cbor_canonical.specs.Writing.{Extends}
use Rattle.cbor_canonical.proofs.ItemRuns.{ItemsSoFar}
use Rattle.cbor_canonical.proofs.PairRuns.{PairsSoFar}
use Rattle.cbor_canonical.proofs.rewrite.+rewrites.Given as goal

-- The contents of a nest are a level deeper.
abbrev pub decreases-rewrite_rest : goal.decreases-rewrite_rest
decreases-rewrite_rest l = 8 * l.depth

abbrev pub decreases-rewrite_titled : goal.decreases-rewrite_titled
decreases-rewrite_titled l = 8 * l.depth + 1

abbrev pub decreases-rewrite_item : goal.decreases-rewrite_item
decreases-rewrite_item l = 8 * l.depth + 2

abbrev pub decreases-rewrite_pair : goal.decreases-rewrite_pair
decreases-rewrite_pair l = 8 * l.depth + 3

abbrev pub decreases-rewrite_items : goal.decreases-rewrite_items
decreases-rewrite_items l = 8 * l.depth + 4

abbrev pub decreases-rewrite_pairs : goal.decreases-rewrite_pairs
decreases-rewrite_pairs l = 8 * l.depth + 4

abbrev pub decreases-rewrite_sorted : goal.decreases-rewrite_sorted
decreases-rewrite_sorted l = 8 * l.depth + 5

abbrev pub decreases-rewrite_array : goal.decreases-rewrite_array
decreases-rewrite_array l = 8 * l.depth + 6

abbrev pub decreases-rewrite_map : goal.decreases-rewrite_map
decreases-rewrite_map l = 8 * l.depth + 6

abbrev pub invariant-rewrite_items-items : goal.invariant-rewrite_items-items
invariant-rewrite_items-items l = record {
  is : Extends (ItemsSoFar l.order l.depth l.done l.fn.bytes l.rest) l.at l.end l.fn.out l.out;
  grown : Grows l.done (length l.fn.bytes) (length l.rest) l.at l.end;
  within : l.done ≤ l.limit;
}

abbrev pub decreases-rewrite_items-items : goal.decreases-rewrite_items-items
decreases-rewrite_items-items l = l.limit - l.done

abbrev pub invariant-rewrite_pairs-pairs : goal.invariant-rewrite_pairs-pairs
invariant-rewrite_pairs-pairs l = record {
  is : PairsSoFar l.order l.depth l.done l.fn.bytes l.rest l.at l.end l.fn.out l.out l.spans;
  grown : Grows (2 * l.done) (length l.fn.bytes) (length l.rest) l.at l.end;
  within : l.done ≤ l.limit;
}

abbrev pub decreases-rewrite_pairs-pairs : goal.decreases-rewrite_pairs-pairs
decreases-rewrite_pairs-pairs l = l.limit - l.done
