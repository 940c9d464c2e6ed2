use Rattle.std.proofs.Common.{◌+◌, ◌-◌, ◌*◌, ◌^◌, ◌≤◌, length}
use Rattle.ciborium_ll_decoder.specs.Decoding.{MovesOn}
use Rattle.cbor_skip.proofs.ItemRuns.{Decides}
use Rattle.cbor_skip.proofs.ItemSteps.{SoFar}
use Rattle.cbor_skip.proofs.+nests.Given as goal

-- The contents of a nest are one level deeper.
abbrev pub decreases-skip_items : goal.decreases-skip_items
decreases-skip_items g l = 2 * l.depth + 1

abbrev pub decreases-skip_within : goal.decreases-skip_within
decreases-skip_within g l = 2 * l.depth + 1

-- The rest of an item is at the item's own level.
abbrev pub decreases-skip_rest : goal.decreases-skip_rest
decreases-skip_rest g l = 2 * l.depth

abbrev pub invariant-skip_items-items : goal.invariant-skip_items-items
invariant-skip_items-items g l = record {
  deep : l.levels ≤ l.fn.depth;
  whole : Decides g.R.Read (length l.fn.buffer) l.left l.levels l.decoder l.fn.count l.fn.depth l.fn.decoder;
  moves_on : MovesOn g.R.Read l.fn.decoder l.decoder;
}

abbrev pub decreases-skip_items-items : goal.decreases-skip_items-items
decreases-skip_items-items g l = 2 ^ 64 - l.decoder.offset

abbrev pub invariant-skip_within-items : goal.invariant-skip_within-items
invariant-skip_within-items g l = record {
  so_far : SoFar g.R.Read l.fn.header l.depth l.fn.decoder l.decoder l.remaining;
  moves_on : MovesOn g.R.Read l.fn.decoder l.decoder;
}

abbrev pub decreases-skip_within-items : goal.decreases-skip_within-items
decreases-skip_within-items g l = 2 ^ 64 - l.decoder.offset
