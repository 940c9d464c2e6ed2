-- The bytes that a quoting writer has written to the writer within, since it began.
use Rattle.std.specs.Prelude.{◌≡◌, ℕ, suc, Bool, true, false, List, [], ◌∷◌, Option, Some, None}
use Rattle.ciborium_ll.specs.Types.Write.{Ghosts}
use Rattle.ciborium_ll.specs.Encoding.{WritesAll, WritesFront}
use Rattle.cbor_diag.specs.declared.strings.quotes.Quotes.{Quotes}
use Rattle.cbor_diag.specs.declared.strings.quotes.Quotes.TheVariants as q
use Rattle.cbor_diag.specs.declared.strings.held.Held.TheVariants.{Nothing}
use Rattle.cbor_diag.specs.Passing.{passed_text}

-- ---- numbers for the facts that a writer tells, and for quotes

-- A number for a room: 0 if none is told, and otherwise one more than the room. A room of 5 has the number 6.
abbrev pub room_code : Option ℕ → ℕ
room_code None = 0
room_code (Some room) = suc room

-- Numbers for the written bytes: an empty list if none are told, and otherwise a 0 and the bytes. The bytes `61 62`
-- give `00 61 62`.
abbrev pub written_code : Option (List ℕ) → List ℕ
written_code None = []
written_code (Some bytes) = 0 ∷ bytes

-- Numbers for the failed calls, the room and the written bytes. For one failed call, a room of 5 and the byte `61` they
-- are `01 06 00 61`.
abbrev pub told_code : Option (List ℕ) → Option ℕ → ℕ → List ℕ
told_code written room failures = failures ∷ room_code room ∷ written_code written

-- A number for a kind of quotes: 0 for digits, 1 for a text, and so on.
abbrev pub quotes_code : Quotes → ℕ
quotes_code q.Hex = 0
quotes_code q.Text = 1
quotes_code q.Base16 = 2
quotes_code q.Base64 = 3
quotes_code q.Base64Url = 4

-- ---- the written bytes

-- How many failures there were: 1 if the writer has failed, and otherwise 0. At most one is passed on.
abbrev pub failure_count : Bool → ℕ
failure_count false = 0
failure_count true = 1

module _ {W F : Type 0} (sink : Ghosts W F) where
  -- All that a writer tells, in one list. A writer that tells neither bytes nor room, and has not failed, gives
  -- `00 00`.
  abbrev pub writer_code : W → List ℕ
  writer_code writer = told_code (sink.written writer) (sink.room writer) (sink.failures writer)

  -- The text was written, or the writer failed and a beginning of the text was written. If it failed, it can have
  -- written `61` of the text `61 0a`.
  abbrev pub WritesUntil : Bool → W → List ℕ → W → Type 0
  WritesUntil false old text new = WritesAll sink old text new
  WritesUntil true old text new = WritesFront sink old text new

  -- Since the writer within told the numbers of this list, the text of these bytes was written to it, or it failed at
  -- that text. The byte `0a` stands as `0a` in a byte string, and as `\n` in a text.
  abbrev pub IsQuoted : List ℕ → Quotes → Bool → List ℕ → W → Type 0
  IsQuoted began quotes failed given writer =
      (before : W) → writer_code before ≡ began → WritesUntil failed before (passed_text quotes Nothing given) writer
