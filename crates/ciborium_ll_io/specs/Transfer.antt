-- The effect of a read and a write on the bytes that a reader and a writer tell. A reader may tell the bytes ahead. A
-- writer may tell the bytes written and its room. A definition says nothing of a fact that is not told. Std has
-- `Consumes old new bytes` (the bytes ahead began with `bytes`, which are gone) and `Appends old new bytes`.
use Rattle.std.specs.Prelude.{◌≡◌, ℕ, ◌+◌, ◌<◌, ◌≤◌, List, length, take, ⊤, None, Some}
use Rattle.std.specs.Borrow.{GName}
use Rattle.std.specs.Io.KnownBytes.{Appends, Consumes}
use Rattle.std.specs.declared.option.Option.{Option}

-- A room that was told is still told, and is less by `n`: a room of 10 becomes 7 if `n` is 3.
abbrev pub Shrinks : Option ℕ → Option ℕ → ℕ → Type 0
Shrinks None new n = ⊤
Shrinks (Some old) None n = ⊥
Shrinks (Some old) (Some new) n = old ≡ new + n

-- The first `count` bytes were appended, and a told room is less by `count`. If `count` is 1, a write of `82 01`
-- appended `82`.
abbrev pub AppendsFirst : Option (List ℕ) → Option (List ℕ) → Option ℕ → Option ℕ → List ℕ → ℕ → Type 0
AppendsFirst written written' room room' bytes count =
    Appends written written' (take count bytes) × Shrinks room room' count × (count ≤ length bytes)

-- A beginning of the bytes was appended, and a told room is less by its length. A write of `82 01` appended nothing,
-- `82` or `82 01`.
abbrev pub AppendsFront : Option (List ℕ) → Option (List ℕ) → Option ℕ → Option ℕ → List ℕ → Type 0
AppendsFront written written' room room' bytes = (count : ℕ) × AppendsFirst written written' room room' bytes count

-- A beginning of the bytes was appended, but not all of them. A write of `82 01` appended nothing or `82`.
abbrev pub AppendsPart : Option (List ℕ) → Option (List ℕ) → List ℕ → Type 0
AppendsPart written written' bytes = (count : ℕ) × Appends written written' (take count bytes) × (count < length bytes)

-- A beginning of the bytes was consumed, but not all of them. A read of `82 01` consumed nothing or `82`.
abbrev pub ConsumesPart : Option (List ℕ) → Option (List ℕ) → List ℕ → Type 0
ConsumesPart ahead ahead' bytes = (count : ℕ) × Consumes ahead ahead' (take count bytes) × (count < length bytes)

-- A slice that was lent to a writer: the name of the loan, and the bytes of the slice at that time, as `00 00`. No call
-- changes it, so the lender of the slice knows that the writer is still on it after a generic call.
pub record Target : Type 0 where
  pub loan : GName
  pub before : List ℕ
