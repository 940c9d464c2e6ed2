-- A checker, and the plain numbers of one, by the bytes that it has read.
use Rattle.ciborium_ll_grammar.specs.declared.spelling.Spelling.{Spelling}
use Rattle.std.specs.Prelude.{◌≡◌, ℕ, List}
use Rattle.cbor_checker.specs.declared.checker.Checker.{Checker}
use Rattle.cbor_checker.specs.declared.snapshot.Snapshot.{Snapshot}
use Rattle.cbor_checker.specs.declared.progress.End.{End}
use Rattle.cbor_checker.specs.declared.progress.Progress.{Progress}
use Rattle.cbor_checker.specs.declared.progress.Progress.TheVariants as r
use Rattle.cbor_checker.specs.Places.{spot_in}
use Rattle.cbor_checker.specs.Snapshots.{Holds}
use Rattle.cbor_checker.specs.Spots.{Spot}
use Rattle.cbor_checker.specs.Steps.{IsFed}
use Rattle.cbor_checker.specs.Telling.{end_of, progress_of}

-- The spot that a checker has come to. After `82` with depth 1, it has one nest and no level left.
abbrev pub spot_of : Checker → Spot
spot_of c = spot_in c.position c.kinds c.counts

-- The checker has read exactly these bytes, for an item to the depth, and for `Shortest` in its shortest spelling (RFC
-- 7049, 2.1 to 2.4 and 3.9). A checker that took `82` and then `01` has read `82 01`. A caller needs no more of this
-- word: `new` and `feed` say when it holds, and `Tells` says what follows for the bytes. How a checker keeps what it
-- has read is its own.
unfoldable pub HasRead : Spelling → ℕ → List ℕ → Checker → Type 0
HasRead allowed depth bytes checker = IsFed allowed depth bytes (spot_of checker)

-- The checker's answer, with the number that is due or the place of a fault: `More(2)` after `19`. The law `one_answer`
-- says that the bytes decide it.
unfoldable pub Answers : Checker → Progress → Type 0
Answers checker progress = progress ≡ progress_of (spot_of checker)

-- The answer to a piece is the checker's. If it is `TooLong`, the checker's own answer is that more bytes are due. After
-- `19`, `More(2)` and `TooLong` are such answers, and `More(1)` is none.
abbrev pub AnswersPiece : Checker → Progress → Type 0
AnswersPiece checker r.TooLong = (due : ℕ) × Answers checker (r.More due)
AnswersPiece checker progress = Answers checker progress

-- The checker's answer if no more bytes come: `Short(2)` after `19`. The law `end_answers` says that the number and the
-- fault are those of `Answers`, and `one_answer` that the bytes decide it.
unfoldable pub AnswersEnd : Checker → End → Type 0
AnswersEnd checker end = end ≡ end_of (spot_of checker)

-- The plain numbers are those of a checker that has read exactly these bytes, as in `HasRead`. Numbers that a checker
-- wrote after `82 01` keep `82 01`. How they keep it is their own.
unfoldable pub Keeps : Spelling → ℕ → List ℕ → Snapshot → Type 0
Keeps allowed depth bytes snapshot = (spot : Spot) × IsFed allowed depth bytes spot × Holds snapshot spot

-- The plain numbers are those of this checker. The numbers that a checker wrote after `82 01` are those of a checker
-- that has read `82 01`. The law `one_saved` says that all checkers with these numbers answer the same.
unfoldable pub Saves : Checker → Snapshot → Type 0
Saves checker snapshot = Holds snapshot (spot_of checker)

-- The plain numbers are those of a state, even if no bytes lead to it. So are the numbers that a checker wrote, and
-- numbers that are all 0 are not.
unfoldable pub HoldsSome : Snapshot → Type 0
HoldsSome snapshot = (spot : Spot) × Holds snapshot spot
