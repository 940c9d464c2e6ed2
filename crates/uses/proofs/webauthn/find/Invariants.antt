use Rattle.std.proofs.Common.{length}
use Rattle.uses.proofs.WebauthnLaws.{LeftAt}
use Rattle.uses.proofs.webauthn.find.Given as goal

-- The pairs that are left of the map begin at the place.
abbrev pub invariant-pairs : goal.invariant-pairs
invariant-pairs l = record {
  left : LeftAt l.fn.item.depth l.fn.key l.fn.item.bytes.now l.place l.pairs.depth l.pairs.rest.now;
}

abbrev pub decreases-pairs : goal.decreases-pairs
decreases-pairs l = length l.pairs.rest.now
