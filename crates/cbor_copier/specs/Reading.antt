-- The meaning of a copier's answers for the bytes that it has read and for those that it has written, in the words of
-- the grammar (RFC 7049, 2.1, 2.2.2 and 3.9).
use Rattle.std.specs.Prelude.{◌≡◌, ℕ, ◌+◌, ◌<◌, ◌≤◌, ◌^◌, ◌⊎◌, List, [], ◌++◌, length, take}
use Rattle.ciborium_ll_grammar.specs.declared.spelling.Spelling.{Spelling}
use Rattle.ciborium_ll_grammar.specs.declared.spelling.Spelling.TheVariants.{Shortest}
use Rattle.ciborium_ll_grammar.specs.Title.{AreBytes}
use Rattle.ciborium_ll_grammar.specs.Elements.{IsRun, IsStrictSpelling, Mark, spelling}
use Rattle.ciborium_ll_grammar.specs.Faults.{Answer, Short, Syntax, BeginsWithElements, HasFault}
use Rattle.cbor_copier.specs.declared.progress.Copied.{Copied}
use Rattle.cbor_copier.specs.declared.progress.End.{End}
use Rattle.cbor_copier.specs.declared.progress.End.TheVariants as e
use Rattle.cbor_copier.specs.declared.progress.Progress.{Progress}
use Rattle.cbor_copier.specs.declared.progress.Progress.TheVariants as r

-- The bytes are that many elements with these marks, and for `Shortest` in their shortest spelling (RFC 7049, 2.1,
-- 2.2.2 and 3.9). `18 01` is one element for `Any` alone.
pub record IsTakenRun (allowed : Spelling) (count : ℕ) (bytes : List ℕ) (marks : List Mark) : Type 0 where
  pub run : IsRun count bytes marks
  pub strictly : allowed ≡ Shortest → IsStrictSpelling bytes marks []

-- The bytes are that many elements, and for `Shortest` in their shortest spelling. The output is their shortest
-- spelling, as `01` for `18 01` and `Any` (RFC 7049, 2.1, 2.2.2 and 3.9).
pub record AreSpelled (allowed : Spelling) (count : ℕ) (bytes output : List ℕ) : Type 0 where
  pub marks : List Mark
  pub run : IsTakenRun allowed count bytes marks
  pub spelled : output ≡ spelling marks

-- If no more bytes come, a copy of that many elements is at this fault with this output (RFC 7049, 2.1 and 2.2.2). One
-- element with `61` is at `Short` with the output `61`.
pub record ComesTo (allowed : Spelling) (count : ℕ) (bytes : List ℕ) (answer : Answer) (output : List ℕ) : Type 0 where
  pub fault : HasFault allowed count bytes
  pub answered : fault.answer ≡ answer
  pub written : fault.written ≡ output

-- Some more bytes make that many elements, as `20` after `18` does for one (RFC 7049, 2.1 and 2.2.2). For `Shortest`
-- they make them in their shortest spelling, as no byte does after `19 00`.
pub record SomeGoOn (allowed : Spelling) (count : ℕ) (bytes : List ℕ) : Type 0 where
  pub more : List ℕ
  pub more_bytes : AreBytes more
  pub marks : List Mark
  pub run : IsTakenRun allowed count (bytes ++ more) marks

-- Whatever bytes follow, that many elements do not stand at the start, as with one and `1c` (RFC 7049, 2.1 and 2.2.2).
-- For `Shortest` none in their shortest spelling do, as with one and `19 00`.
abbrev pub NoneGoOn : Spelling → ℕ → List ℕ → Type 0
NoneGoOn allowed count bytes =
    (more : List ℕ) → AreBytes more → BeginsWithElements allowed count (bytes ++ more) → ⊥

-- With some more bytes, a copy is at the fault of this place with this output (RFC 7049, 2.1 and 2.2.2). One element
-- with `1c` is at the place 0 without output.
pub record FaultsAt (allowed : Spelling) (place count : ℕ) (bytes output : List ℕ) : Type 0 where
  pub more : List ℕ
  pub more_bytes : AreBytes more
  pub comes_to : ComesTo allowed count (bytes ++ more) (Syntax place) output

-- The meaning of an answer if nothing is pending. `More`: the bytes are a part of that many elements. `Ended`: they are
-- that many elements. `Syntax`: no list of that many elements begins so. For one element, `18` gets `More`, and `1c`
-- gets `Syntax(0)`.
abbrev pub TellsWhole : Spelling → ℕ → List ℕ → List ℕ → Progress → Type 0
TellsWhole allowed count bytes output r.More =
    ComesTo allowed count bytes Short output × SomeGoOn allowed count bytes
TellsWhole allowed count bytes output r.Room = ⊥
TellsWhole allowed count bytes output r.Ended = AreSpelled allowed count bytes output
TellsWhole allowed count bytes output (r.Syntax place) =
    NoneGoOn allowed count bytes × FaultsAt allowed place count bytes output
TellsWhole allowed count bytes output r.TooLong =
    ComesTo allowed count bytes Short output × SomeGoOn allowed count bytes × (2 ^ 64 ≤ length bytes + 1)

-- With some pending bytes after the output, one of those answers holds: for one element and `18 01`, with `01` pending
-- and no output, it is `Ended`.
pub record LacksRoom (allowed : Spelling) (count : ℕ) (bytes output : List ℕ) : Type 0 where
  pub pending : List ℕ
  pub some : 0 < length pending
  pub progress : Progress
  pub told : TellsWhole allowed count bytes (output ++ pending) progress

-- The meaning of the answer for all bytes so far and the output. For one element, `18 01` gets `Room` without output,
-- and `Ended` with the output `01`.
abbrev pub Tells : Spelling → ℕ → List ℕ → List ℕ → Progress → Type 0
Tells allowed count bytes output r.Room = LacksRoom allowed count bytes output
Tells allowed count bytes output progress = TellsWhole allowed count bytes output progress

-- The meaning of the last answer for all bytes and the output. `Ended`: they are that many elements, and all is
-- written. `Short`: they are a part of that many elements. `Syntax`: no list of that many elements begins so. For one
-- element, `42 01` with the output `42 01` gets `Short`.
abbrev pub TellsEnd : Spelling → ℕ → List ℕ → List ℕ → End → Type 0
TellsEnd allowed count bytes output e.Ended = AreSpelled allowed count bytes output
TellsEnd allowed count bytes output e.Short = ComesTo allowed count bytes Short output × SomeGoOn allowed count bytes
TellsEnd allowed count bytes output e.Room = LacksRoom allowed count bytes output
TellsEnd allowed count bytes output (e.Syntax place) =
    NoneGoOn allowed count bytes × FaultsAt allowed place count bytes output

-- ---- the kinds of answers

-- The answer is that more bytes are due: so is the `More` of `42`, and `TooLong` is not.
abbrev pub IsMore : Progress → Type 0
IsMore r.More = Unit {0}
IsMore progress = ⊥

-- The answer is that there is no room for the pending bytes, as for `01` in an output of 0 bytes.
abbrev pub IsRoom : Progress → Type 0
IsRoom r.Room = Unit {0}
IsRoom progress = ⊥

-- The answer is that the copy has ended, as `Ended` for one element, `01` and the output `01`.
abbrev pub IsEnd : Progress → Type 0
IsEnd r.Ended = Unit {0}
IsEnd progress = ⊥

-- The answer is a fault, as `Syntax(0)` for `1c`.
abbrev pub IsFault : Progress → Type 0
IsFault (r.Syntax place) = Unit {0}
IsFault progress = ⊥

-- The answer stays, whatever bytes come: the copy has ended, or it is at a fault. `Syntax(0)` stays, and `More`
-- doesn't.
abbrev pub IsLast : Progress → Type 0
IsLast progress = IsEnd progress ⊎ IsFault progress

-- The answer to a piece that says the same as the answer to an end of the bytes: `More` for `Short`.
abbrev pub progress_at : End → Progress
progress_at e.Ended = r.Ended
progress_at e.Short = r.More
progress_at e.Room = r.Room
progress_at (e.Syntax place) = r.Syntax place

-- ---- a piece

-- That many elements begin with these bytes, and go on after them (RFC 7049, 2.1 and 2.2.2). One element does after
-- `18`, and not after `18 01`.
pub record GoesOn (allowed : Spelling) (count : ℕ) (bytes : List ℕ) : Type 0 where
  pub begins : SomeGoOn allowed count bytes
  pub unended : (marks : List Mark) → IsTakenRun allowed count bytes marks → ⊥

-- A copier that has read some bytes and written some reads a piece, writes `put`, and answers so (RFC 7049, 2.1, 2.2.2
-- and 3.9). `goes`: it takes a byte only if the elements go on after all bytes before it. So an end or a fault comes
-- with the first byte that shows it, and no byte is taken after that one. `all`: it takes all bytes if more are due.
-- `long`: it leaves a byte that it can't count. For one element in any spelling, after `18` it takes one byte of
-- `17 01`, writes `17`, and answers `Ended`.
pub record Copies (allowed : Spelling) (count : ℕ) (read written piece put : List ℕ) (copied : Copied) : Type 0 where
  pub taken : copied.taken ≤ length piece
  pub goes : (len : ℕ) → len < copied.taken → GoesOn allowed count (read ++ take len piece)
  pub all : IsMore copied.progress → copied.taken ≡ length piece
  pub long : copied.progress ≡ r.TooLong → copied.taken < length piece
  pub tells : Tells allowed count (read ++ take copied.taken piece) (written ++ put) copied.progress
