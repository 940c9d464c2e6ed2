-- Items that take no level.
use Rattle.std.specs.Prelude.{◌≡◌, ℕ, ◌+◌, ◌/◌, ◌%◌, ◌<◌, ◌⊎◌, List}
use Rattle.cbor_deterministic.specs.declared.Order.{Order}
use Rattle.cbor_deterministic.specs.Deterministic.{AreDeterministic, IsDeterministic}

-- The bytes are an item in the deterministic encoding to each depth, in either order of keys: a number, a float, a
-- simple value or a string (RFC 8949, 3.1 and 4.2.1). `61 61` is such an item. `80` is none, since an array takes a
-- level.
abbrev pub IsFlatItem : List ℕ → Type 0
IsFlatItem bytes = (order : Order) (depth : ℕ) → IsDeterministic order depth bytes

-- The bytes are this many such items, joined. `01 61 61` are two.
abbrev pub AreFlatItems : ℕ → List ℕ → Type 0
AreFlatItems count bytes = (order : Order) (depth : ℕ) → AreDeterministic order depth count bytes

-- The number in the table of a first byte, by its major type and its lower five bits (RFC 8949, 3.1). It is the length
-- of an integer or a simple value of one byte, or of a string below 24 bytes: 1 for `0a`, and 3 for `42`. 0 says
-- nothing.
abbrev pub IsLen : ℕ → ℕ → Type 0
IsLen first len =
    (len ≡ 0)
    ⊎ ((len ≡ 1) × (first % 32 < 24) × ((first / 32 < 2) ⊎ (first / 32 ≡ 7))
    ⊎ (len ≡ 1 + first % 32) × (first % 32 < 24) × ((first / 32 ≡ 2) ⊎ (first / 32 ≡ 3)))
