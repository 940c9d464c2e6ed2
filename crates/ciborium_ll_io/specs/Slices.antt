-- The facts that a `SliceWriter` tells.
use Rattle.std.specs.Prelude.{ℕ, List, Option, Some, length, take, ◌-◌}
use Rattle.ciborium_ll_io.specs.declared.io.slices.SliceWriter.{SliceWriter}
use Rattle.ciborium_ll_io.specs.Transfer.{Target}

-- The bytes written so far: `82 01` if the slice is `82 01 00 00` and 2 bytes are filled.
abbrev pub slice_written : SliceWriter → Option (List ℕ)
slice_written w = Some (take w.filled w.buffer.now)

-- The number of further bytes that fit: 2 if the slice has 4 bytes and 2 are filled.
abbrev pub slice_room : SliceWriter → Option ℕ
slice_room w = Some (length w.buffer.now - w.filled)

-- The number of writes that it refused: 1 after a write of `82 01` with 1 byte left.
abbrev pub slice_failures : SliceWriter → ℕ
slice_failures w = w.failures.count

-- The bytes of the slice when it was lent: `00 00`, for example, even after a write of `82 01`.
abbrev pub slice_before : SliceWriter → List ℕ
slice_before w = w.before.bytes

-- The slice that the writer writes into. It is the same before and after a write of `82 01`.
abbrev pub slice_target : SliceWriter → Target
slice_target w = record { loan = w.buffer.ghost_name; before = slice_before w }
