-- The bytes of an input that is held whole, and those that a writer got of an output.
use Rattle.std.specs.Prelude.{◌≡◌, ℕ, List, Option, None, Some, take}
use Rattle.std.specs.Io.KnownBytes.{Appends}

-- These are all the bytes that a reader had to come, if it tells them. Of a reader with `82 01 02` they are `82 01 02`.
abbrev pub IsWhole : Option (List ℕ) → List ℕ → Type 0
IsWhole None bytes = Unit {0}
IsWhole (Some all) bytes = bytes ≡ all

-- A writer got a beginning of the bytes, or all of them, if it tells what it has. Of `82 01` it may have got `82`.
abbrev pub AppendsSome : Option (List ℕ) → Option (List ℕ) → List ℕ → Type 0
AppendsSome old new bytes = (count : ℕ) × Appends old new (take count bytes)
