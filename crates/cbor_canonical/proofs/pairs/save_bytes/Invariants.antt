use Rattle.std.proofs.Common.{ℕ, map, slice_index_or, ◌≡◌, ◌-◌, ◌<◌, ◌≤◌}
use Rattle.cbor_canonical.specs.declared.pairs.Span.{Span}
use Rattle.cbor_canonical.specs.Places.{bounds, HoldsTwo}
use Rattle.cbor_canonical.proofs.pairs.save_bytes.Given as goal

abbrev pub invariant-cells : goal.invariant-cells
invariant-cells l = record {
  within : l.at ≤ l.cells;
  saved : (cell : ℕ) (other : Span) → cell < l.at → HoldsTwo l.bytes cell (slice_index_or l.spans cell other);
  kept : map bounds l.spans ≡ map bounds l.fn.spans;
}

abbrev pub decreases-cells : goal.decreases-cells
decreases-cells l = l.cells - l.at
