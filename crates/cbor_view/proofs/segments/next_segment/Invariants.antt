use Rattle.std.proofs.Common.{ℕ, ◌≤◌, List, length}
use Rattle.ciborium_ll_grammar.specs.Strings.{Kind}
use Rattle.cbor_view.specs.Segments.{AreSegments, HasSegments}
use Rattle.cbor_view.proofs.segments.next_segment.Given as goal

-- The bytes that are left have the segments of all bytes, since the loop passed only opens and breaks.
abbrev pub invariant-titles : goal.invariant-titles
invariant-titles l = record {
  has : ∥ HasSegments l.rest ∥₁;
  same : (kind : Kind) (bodies : List (List ℕ)) → AreSegments kind l.fn.bytes bodies → AreSegments kind l.rest bodies;
  shorter : length l.rest ≤ length l.fn.bytes;
}

abbrev pub decreases-titles : goal.decreases-titles
decreases-titles l = length l.rest
