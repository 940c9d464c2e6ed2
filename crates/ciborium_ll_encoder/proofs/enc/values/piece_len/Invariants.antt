use Rattle.std.proofs.Common.{ℕ, ◌<◌, ◌≤◌}
use Rattle.std.specs.Str.{IsCharBoundary}
use Rattle.ciborium_ll_encoder.proofs.enc.values.piece_len.Given as goal

abbrev pub invariant-shorter : goal.invariant-shorter
invariant-shorter l = record {
  within : l.len ≤ l.limit;
  longest : (other : ℕ) → l.len < other → other ≤ l.limit → ¬ (IsCharBoundary l.text other);
}

abbrev pub decreases-shorter : goal.decreases-shorter
decreases-shorter l = l.len
