-- The number of bytes of the text that are left.
use Rattle.std.specs.Prelude.{ℕ, ◌≤◌, length}
use Rattle.cbor_encode.specs.declared.cursor.Cursor.{Cursor}
use Rattle.cbor_encode.specs.declared.cursor.Stop.{Stop}

-- The number of bytes that are left. After the first byte of `[1]` it is 2.
abbrev pub left_of : Cursor → ℕ
left_of cursor = length cursor.rest.now

-- At the stop, at most this many bytes are left. A stop with 2 bytes left is within 3, and not within 1.
abbrev pub IsWithin : ℕ → Stop → Type 0
IsWithin left stop = stop.left ≤ left
