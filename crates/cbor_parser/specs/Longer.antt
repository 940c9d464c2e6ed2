-- Bytes with which only longer titles begin.
use Rattle.std.specs.Prelude.{◌≡◌, ℕ, ◌<◌, ◌%◌, ◌⊎◌, List, length, slice_index}

-- The byte at this index is there and is 0, as the byte of `19 00` at 1.
abbrev pub HasZero : List ℕ → ℕ → Type 0
HasZero bytes at = (at < length bytes) × (slice_index bytes at ≡ 0)

-- A number of two, four or eight bytes whose first half is 0, as in `19 00`, has a smaller form (RFC 7049, 3.9). The
-- major type isn't 7: a float has only one title (2.3).
abbrev pub BeginsLonger : List ℕ → Type 0
BeginsLonger bytes =
    (slice_index bytes 0 < 224) × ((slice_index bytes 0 % 32 ≡ 25) × HasZero bytes 1
    ⊎ ((slice_index bytes 0 % 32 ≡ 26) × HasZero bytes 1 × HasZero bytes 2
    ⊎ (slice_index bytes 0 % 32 ≡ 27) × HasZero bytes 1 × HasZero bytes 2 × HasZero bytes 3 × HasZero bytes 4))
