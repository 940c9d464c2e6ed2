-- How much memory the encoding of an item takes.
use Rattle.std.specs.Prelude.{◌≡◌, ℕ, ◌+◌, ◌*◌, ◌/◌, ◌<◌, ◌≤◌, ◌⊎◌, List, length, Option, Some, None}
use Rattle.ciborium_ll_grammar.specs.declared.spelling.Spelling.TheVariants.{Any}
use Rattle.cbor_skip.specs.ItemFaults.{BeginsWithItem}
use Rattle.cbor_deterministic.specs.declared.Order.{Order}
use Rattle.cbor_deterministic.specs.Deterministic.{HasDeterministic}
use Rattle.cbor_canonical.specs.declared.Stop.{Stop}
use Rattle.cbor_canonical.specs.declared.Stop.TheVariants as st

-- The most bytes that the encoding of an item of this length takes. The title and the break of an array without a count
-- take two bytes, and the title of 256 items takes three (RFC 8949, 3 and 3.2.2). So `9f`, 256 bytes `00` and `ff` are
-- 258 bytes, and their encoding has 259.
abbrev pub room_of : ℕ → ℕ
room_of len = len + len / 256

-- The most places that the rewriting of an item of this length takes: one for two bytes of the encoding. For 258 bytes
-- it is 129.
abbrev pub places_of : ℕ → ℕ
places_of len = room_of len / 2

-- The output or the places may be too few for an item of this length. For 258 bytes, 258 bytes of output are too few,
-- and so are 128 places.
abbrev pub IsTooSmall : ℕ → ℕ → ℕ → Type 0
IsTooSmall len room places = (room < room_of len) ⊎ (places < places_of len)

-- An item begins the bytes, and an output of this length or this number of places may be too few for it. If the item is
-- in the encoding already, the output is shorter than the item. The item of `82 01 02 05` has 3 bytes, so 2 bytes of
-- output are too few, and 3 are enough with no place.
pub record LacksMemory (order : Order) (depth : ℕ) (bytes : List ℕ) (room places : ℕ) : Type 0 where
  pub front : BeginsWithItem Any depth bytes
  pub small : IsTooSmall (length front.item) room places
  pub kept : (len : ℕ) → HasDeterministic order depth bytes len → room < len

-- ---- while a call rewrites

-- A call read items until `after` of `before` bytes were left, and wrote from one offset to another. It read a byte or
-- more for each item. It wrote at most 257 bytes for 256 that it read, less a 256th of a byte for each item. A call that
-- reads `9f`, 256 bytes `00` and `ff` as one item and writes 259 bytes does so.
pub record Grows (items before after at end : ℕ) : Type 0 where
  pub read : items + after ≤ before
  pub wrote : 256 * end + items + 257 * after ≤ 257 * before + 256 * at

-- A call stops for `Room` only if the output from an offset on is too short for an item of one length, or the places
-- are too few for an item of another length. From the offset 1 on, an output of 3 bytes is too short for 3 bytes.
abbrev pub LacksRoom : ℕ → ℕ → ℕ → ℕ → ℕ → Stop → Type 0
LacksRoom len at room all places stop = stop ≡ st.Room → at + room_of len ≤ room → places_of all ≤ places → ⊥

-- How many bytes end an array or a map of this count: a break without a count, and otherwise none (RFC 8949, 3.2.2).
-- After `9f 01` it is 1.
abbrev pub end_len : Option ℕ → ℕ
end_len (Some count) = 0
end_len None = 1
