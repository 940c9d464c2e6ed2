-- A checker's position and the numbers of its nests as the spot that it has come to.
use Rattle.std.specs.Prelude.{ℕ, List}
use Rattle.cbor_checker.specs.declared.position.Position.{Position}
use Rattle.cbor_checker.specs.Snapshots.{levels_in}
use Rattle.cbor_checker.specs.Spots.{Spot}
use Rattle.cbor_checker.specs.Stack.{levels_of}

-- The spot of a position whose nests have these numbers. One nest with the kind 0 and the count 1, as after `82`, has
-- one item left after the item that is due.
abbrev pub spot_in : Position → List ℕ → List ℕ → Spot
spot_in p kinds counts = record {
  allowed = p.spelling;
  phase = p.phase;
  front = p.front;
  within = p.within;
  depth = p.depth;
  levels = levels_of (levels_in p.nests kinds counts);
  place = p.place;
  offset = p.offset;
}
