-- What a call writes into memory that a caller lends.
use Rattle.std.specs.Prelude.{◌≡◌, ℕ, ◌≤◌, List, ◌++◌, length, take}

-- A call wrote from one offset of the output to another. The relation holds of the bytes before the first offset, as
-- they were, and of the bytes before the second one. Written at 1, the byte `02` makes `01 02` of `01 00`.
pub record Extends (R : List ℕ → List ℕ → Type 0) (at end : ℕ) (old new : List ℕ) : Type 0 where
  pub is : R (take at old) (take end new)
  pub from : at ≤ end
  pub within : end ≤ length new

-- The call wrote these bytes and kept the bytes before them, as `02` at 1 in `01 00`.
abbrev pub Adds : List ℕ → ℕ → ℕ → List ℕ → List ℕ → Type 0
Adds bytes at end old new = Extends (λ before after. after ≡ before ++ bytes) at end old new

-- The call put the bytes before a content that stands from one offset to another, and `after` is the end of both. Put
-- before the content `01` of `18 01`, the byte `81` makes `18 81 01`.
pub record Inserts (bytes : List ℕ) (at end after : ℕ) (old new : List ℕ) : Type 0 where
  pub moved : (front content : List ℕ) → take end old ≡ front ++ content → length front ≡ at
      → take after new ≡ front ++ (bytes ++ content)
  pub from : end ≤ after
  pub within : after ≤ length new
