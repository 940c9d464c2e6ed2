-- The facts that a `Discard` tells.
use Rattle.std.specs.Prelude.{ℕ, List, Option, Some}
use Rattle.ciborium_ll_io.specs.declared.io.discard.Discard.{Discard}

-- The bytes that it took so far: `82 01` after it took `82` and then `01`.
abbrev pub discard_taken : Discard → Option (List ℕ)
discard_taken w = Some w.taken.bytes

-- The number of further bytes that it takes: 3 after it took 2 of at most 5.
abbrev pub discard_room : Discard → Option ℕ
discard_room w = Some w.room

-- The number of writes that it refused: 1 after a write of `82 01` with a room of 1.
abbrev pub discard_failures : Discard → ℕ
discard_failures w = w.failures.count
