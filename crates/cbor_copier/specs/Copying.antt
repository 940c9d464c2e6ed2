-- A copier, and the plain numbers of one, by the bytes that it has read and those that it has written.
use Rattle.std.specs.Prelude.{◌≡◌, ℕ, ◌+◌, List, [], ◌++◌, length, Option, Some, None}
use Rattle.ciborium_ll_grammar.specs.declared.spelling.Spelling.{Spelling}
use Rattle.cbor_copier.specs.declared.copier.Copier.{Copier}
use Rattle.cbor_copier.specs.declared.progress.End.{End}
use Rattle.cbor_copier.specs.declared.progress.Progress.{Progress}
use Rattle.cbor_copier.specs.declared.progress.Progress.TheVariants as r
use Rattle.cbor_copier.specs.declared.snapshot.Snapshot.{Snapshot}
use Rattle.cbor_copier.specs.Snapshots.{Holds}
use Rattle.cbor_copier.specs.Spots.{Spot, putting}
use Rattle.cbor_copier.specs.Steps.{IsFed}
use Rattle.cbor_copier.specs.Telling.{end_of, progress_of}

-- The spot that a copier has come to. It puts out the pending bytes: `01`, if `18 01` came and nothing is written.
abbrev pub spot_of : Copier → Spot
spot_of c = record {
  allowed = c.spelling;
  phase = c.phase;
  front = c.front;
  within = c.within;
  left = c.left;
  place = c.place;
  offset = c.offset;
  put = c.pending;
}

-- `IsCopied allowed count fed given c`: `fed` came to a copy of `count` elements, and for `Shortest` of such in their
-- shortest spelling. `given` is what they put out, without the pending bytes. If `01` is pending after `18 01`, `given`
-- is empty.
abbrev pub IsCopied : Spelling → ℕ → List ℕ → List ℕ → Copier → Type 0
IsCopied allowed count fed given c = IsFed allowed count fed (putting [] (spot_of c)) (given ++ c.pending)

-- `IsCopied` by the spot alone, which puts out the pending bytes. If it puts out `01` after `42 01`, `given` is `42`.
abbrev pub IsCopiedTo : Spelling → ℕ → List ℕ → List ℕ → Spot → Type 0
IsCopiedTo allowed count fed given spot = IsFed allowed count fed (putting [] spot) (given ++ spot.put)

-- The restored copier has come to this spot. A copier restored after `18` is at the spot after `18`, and `None` at
-- none.
abbrev pub IsAt : Option Copier → Spot → Type 0
IsAt (Some copier) spot = spot_of copier ≡ spot
IsAt None spot = ⊥

-- ---- in the words of the grammar

-- `HasCopied allowed count read written copier`: the copier of `count` elements, and for `Shortest` of such in their
-- shortest spelling, has read exactly the bytes `read`, and has written exactly the bytes `written` (RFC 7049, 2.1,
-- 2.2.2 and 3.9). A copier for any spelling that took `18` and then `01` has read `18 01`. It has written `01`, or
-- nothing if there was no room. A caller needs no more of this word: `new`, `strict` and `feed` say when it holds, and
-- `Tells` says what follows for the bytes. How a copier keeps what it has read is its own.
unfoldable pub HasCopied : Spelling → ℕ → List ℕ → List ℕ → Copier → Type 0
HasCopied allowed count read written copier = IsCopied allowed count read written copier

-- The bytes that the copier is still to write: `01` after `18 01` without room. The law `one_copy` says that the bytes
-- decide them and what is written.
unfoldable pub pending : Copier → List ℕ
pending copier = copier.pending

-- How many bytes the copier is to write, or holds back of a title or of a character that is not whole: two after `19
-- 01`.
unfoldable pub held : Copier → ℕ
held copier = length copier.pending + length copier.front

-- The copier's answer, with the place of a fault: `More` after `18`, and `Room` after `18 01` without room. The law
-- `one_answer` says that the bytes decide it.
unfoldable pub Answers : Copier → Progress → Type 0
Answers copier progress = progress ≡ progress_of copier.pending copier.phase

-- The answer to a piece is the copier's. If it is `TooLong`, the copier's own answer is that more bytes are due. After
-- `18`, `More` and `TooLong` are such answers, and `Ended` is none.
abbrev pub AnswersPiece : Copier → Progress → Type 0
AnswersPiece copier r.TooLong = Answers copier r.More
AnswersPiece copier progress = Answers copier progress

-- The copier's answer if no more bytes come: `Short` after `18`. The law `end_answers` says that it is the answer of
-- `Answers`, and `one_answer` that the bytes decide it.
unfoldable pub AnswersEnd : Copier → End → Type 0
AnswersEnd copier end = end ≡ end_of copier.pending copier.phase

-- The plain numbers are those of a copier that has read and written exactly these bytes, as in `HasCopied`. Numbers
-- that a copier wrote after `82 01` keep `82 01`. How they keep it is their own.
unfoldable pub Keeps : Spelling → ℕ → List ℕ → List ℕ → Snapshot → Type 0
Keeps allowed count read written snapshot =
    (spot : Spot) × IsCopiedTo allowed count read written spot × Holds snapshot spot

-- The plain numbers are those of this copier. The numbers that a copier wrote after `82 01` are those of a copier that
-- has read `82 01`. The law `one_saved` says that all copiers with these numbers answer the same.
unfoldable pub Saves : Copier → Snapshot → Type 0
Saves copier snapshot = Holds snapshot (spot_of copier)

-- The plain numbers are those of a state, even if no bytes lead to it. So are the numbers that a copier wrote, and
-- numbers that are all 0 are not.
unfoldable pub HoldsSome : Snapshot → Type 0
HoldsSome snapshot = (spot : Spot) × Holds snapshot spot
