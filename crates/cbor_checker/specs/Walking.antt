-- A checker during a call as the spot that it has come to. The numbers of its nests stand in the caller's memory.
use Rattle.std.specs.Prelude.{◌≡◌, ◌-◌, ℕ, List, length, take, drop}
use Rattle.ciborium_ll_grammar.specs.declared.remaining.Remaining.{Remaining}
use Rattle.cbor_checker.specs.declared.levels.Levels.{Levels}
use Rattle.cbor_checker.specs.declared.walk.Walk.{Walk}
use Rattle.cbor_checker.specs.Snapshots.{levels_in}
use Rattle.cbor_checker.specs.Spots.{Spot}
use Rattle.cbor_checker.specs.Stack.{levels_of}

-- The nests whose numbers stand in that memory. With the length 1, the first kind 0 and the first count 1 are one item,
-- as after `82`.
abbrev pub levels_at : Levels → List Remaining
levels_at l = levels_of (levels_in l.len l.kinds.now l.counts.now)

-- The memory is the same, even if a count in it changed from 2 to 1.
abbrev pub AreLent : Levels → Levels → Type 0
AreLent old new = (new.kinds.ghost_name ≡ old.kinds.ghost_name) × (new.counts.ghost_name ≡ old.counts.ghost_name)

-- The spot that a walk has come to. After `81 19` the place is 1, and the offset 2.
abbrev pub spot_at : Walk → Spot
spot_at w = record {
  allowed = w.spelling;
  phase = w.phase;
  front = w.front;
  within = w.within;
  depth = w.depth;
  levels = levels_at w.levels;
  place = w.place;
  offset = w.offset;
}

-- The bytes of a piece from this index on: `02` of `01 02` from 1 on.
abbrev pub rest_of : List ℕ → ℕ → List ℕ
rest_of bytes at = take (length bytes - at) (drop at bytes)
