-- The line and the column of a place in a text.
use Rattle.std.specs.Prelude.{◌≡◌, ◌≢◌, ℕ, ◌+◌, ◌≤◌, ◌==◌, nat_lt, List, [], ◌∷◌, length, take, if◌then◌else◌}
use Rattle.ciborium_ll_text.specs.Text.{IsFront}
use Rattle.cbor_encode.specs.declared.Expected.TheVariants as x
use Rattle.cbor_encode.specs.declared.NotationError.{NotationError}
use Rattle.cbor_encode.specs.declared.cursor.Stop.{Stop}

-- The line after a byte: a line feed, which is 10, begins a line.
abbrev pub next_line : ℕ → ℕ → ℕ
next_line line byte = if byte == 10 then line + 1 else line

-- The column after a byte: 1 after a line feed, and otherwise each character takes one. A byte from 80 to bf is not the
-- first byte of its character. The bytes `c3 bc`, which are one character, take one column.
abbrev pub next_column : ℕ → ℕ → ℕ
next_column column byte =
    if byte == 10 then 1 else (if nat_lt byte 128 then column + 1 else (if nat_lt byte 192 then column else column + 1))

-- The line after these bytes. `61 0a 62` from line 1 leads to line 2.
abbrev pub line_after : ℕ → List ℕ → ℕ
line_after line [] = line
line_after line (byte ∷ bytes) = line_after (next_line line byte) bytes

-- The column after these bytes. `61 0a 62` from column 1 leads to column 2.
abbrev pub column_after : ℕ → List ℕ → ℕ
column_after column [] = column
column_after column (byte ∷ bytes) = column_after (next_column column byte) bytes

-- The text is UTF-8, or UTF-8 is expected at the stop, and the stop leaves the bytes after the longest front that is
-- UTF-8. In the bytes `5b ff 5d` the stop leaves 2.
abbrev pub NamesDamage : List ℕ → Stop → Type 0
NamesDamage text stop = (front rest : List ℕ) → IsFront text front rest → rest ≢ []
    → (stop.expected ≡ x.Text) × (stop.left ≡ length rest)

-- The place of the error is within the text, and its line and its column are those of the place, both from 1. If the
-- text is not UTF-8, UTF-8 is expected, and the place is the end of the longest front that is. At the place 2 of `[1`
-- the line is 1, and the column 3. In the bytes `5b ff 5d` the place is 1.
pub record IsFaultIn (text : List ℕ) (error : NotationError) : Type 0 where
  pub within : error.place ≤ length text
  pub damage : (front rest : List ℕ) → IsFront text front rest → rest ≢ []
      → (error.expected ≡ x.Text) × (error.place ≡ length front)
  pub line : error.line ≡ line_after 1 (take error.place text)
  pub column : error.column ≡ column_after 1 (take error.place text)
