use Rattle.std.proofs.Common.{ℕ, List, length}
use Rattle.ciborium_ll_grammar.specs.Strings.{Kind}
use Rattle.cbor_view.specs.Segments.{AreSegments, HasSegments}
use Rattle.cbor_view.proofs.SearchLaws.{LeftOf}
use Rattle.cbor_view.proofs.search.are_joined.Given as goal

-- The joined bodies that are left equal the bytes that are left exactly if all bodies, joined, equal all bytes.
abbrev pub invariant-segments : goal.invariant-segments
invariant-segments l = record {
  has : ∥ HasSegments l.rest ∥₁;
  same : (kind : Kind) (bodies : List (List ℕ)) → AreSegments kind l.fn.segments bodies
      → LeftOf kind bodies l.fn.bytes l.rest l.left;
}

abbrev pub decreases-segments : goal.decreases-segments
decreases-segments l = length l.rest
