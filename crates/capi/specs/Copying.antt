-- The result of `cll_recode`.
use Rattle.std.specs.Prelude.{◌≡◌, ℕ, ◌+◌, ◌<◌, ◌≤◌, List, ◌++◌, drop, length, Result, Ok, Err}
use Rattle.ciborium_ll_grammar.specs.declared.spelling.Spelling.TheVariants.{Any}
use Rattle.ciborium_ll.specs.Types.Error.TheVariants as e
use Rattle.ciborium_ll.specs.Types.RecodeError.{RecodeError}
use Rattle.ciborium_ll.specs.Types.RecodeError.TheVariants as r
use Rattle.ciborium_ll.specs.Elements.{spelling}
use Rattle.ciborium_ll.specs.Faults.{Short, Syntax, BeginsWithElements, HasFault}
use Rattle.ciborium_ll.specs.RecodingTold.{StopInWriting}
use Rattle.capi.specs.declared.answer.CllAnswer.{CllAnswer}
use Rattle.capi.specs.declared.answer.CllAnswer.TheVariants as a
use Rattle.capi.specs.declared.answer.CllReport.{CllReport}
use Rattle.capi.specs.Answers.{ReportsCopy}

-- The output begins with the bytes, and after them it is as it was. With `17` the output `00 00` becomes `17 00`.
abbrev pub StandAtStart : List ℕ → List ℕ → List ℕ → Type 0
StandAtStart bytes old new = new ≡ bytes ++ drop (length bytes) old

-- The input began with `count` elements. All of them were consumed, and their shortest spelling stands in the output.
-- For one element `18 17` the output begins with `17`.
abbrev pub OutputsElements : ℕ → List ℕ → List ℕ → List ℕ → CllReport → Type 0
OutputsElements count bytes old new report =
    (front : BeginsWithElements Any count bytes) × StandAtStart (spelling front.marks) old new
    × ReportsCopy report (length front.elements) (length (spelling front.marks)) 0

-- The first fault stopped the copy at this place. The bytes that were written before the fault stand in the output. A
-- copy of two elements of `18 17 1c` stops at 2, after `17` was written.
abbrev pub OutputsUpToFault : ℕ → List ℕ → List ℕ → List ℕ → CllReport → Type 0
OutputsUpToFault count bytes old new report =
    (fault : HasFault Any count bytes) × (fault.answer ≡ Syntax report.place) × StandAtStart fault.written old new
    × ReportsCopy report (length fault.before + fault.consumed) (length fault.written) report.place

-- The result of `cll_recode` with enough room, by its answer. If the bytes do not begin with `count` elements, the
-- first fault stops the copy. If they end too early, the place is a number of bytes (`ElementsLack`). One element in
-- `18 17` is `Ok`, in `18` it is `Short`, and in `1c` it is `Syntax` at 0.
abbrev pub CopiesInto : ℕ → List ℕ → List ℕ → CllAnswer → List ℕ → CllReport → Type 0
CopiesInto count bytes old a.Ok new report = OutputsElements count bytes old new report
CopiesInto count bytes old a.Short new report =
    (fault : HasFault Any count bytes) × (fault.answer ≡ Short) × StandAtStart fault.written old new
    × ReportsCopy report (length fault.before + fault.consumed) (length fault.written) report.place
CopiesInto count bytes old a.Syntax new report = OutputsUpToFault count bytes old new report
CopiesInto count bytes old answer new report = ⊥

-- The length of the buffer through which bodies go, in bytes. A byte string of 1025 bytes takes two chunks.
abbrev pub buffer_size : ℕ
buffer_size = 1024

-- The copy stops in this room, since the next thing to write does not fit: the shortest title of a header that was
-- read, or a chunk of a body. In a room of 1 the title `18 18` stops a copy.
pub record StopsForRoom (count : ℕ) (bytes : List ℕ) (room : ℕ) : Type 0 where
  pub stop : StopInWriting count buffer_size bytes
  pub fits : length stop.whole ≤ room
  pub lacks : room < length stop.whole + length stop.next

-- The result of `cll_recode` in any room: that of `CopiesInto`, or a stop since the next thing to write does not fit.
-- Two elements in `01 18 18` are `Room` in a room of 2, after `01`.
abbrev pub CopiesAnyhow : ℕ → List ℕ → List ℕ → CllAnswer → List ℕ → CllReport → Type 0
CopiesAnyhow count bytes old a.Room new report =
    (stops : StopsForRoom count bytes (length old)) × StandAtStart stops.stop.written old new
    × ReportsCopy report (length stops.stop.before + length stops.stop.read) (length stops.stop.written) 0
CopiesAnyhow count bytes old answer new report = CopiesInto count bytes old answer new report

module _ {E F : Type 0} where
  -- The answer that stands for the result of `recode`. `Syntax(3)` has `Syntax`, and a failed write has `Room`.
  abbrev pub copy_answer : Result (Unit {0}) (RecodeError E F) → CllAnswer
  copy_answer (Ok done) = a.Ok
  copy_answer (Err (r.Read (e.Io fault))) = a.Short
  copy_answer (Err (r.Read (e.Syntax place))) = a.Syntax
  copy_answer (Err (r.Read e.TooLong)) = a.TooLong
  copy_answer (Err (r.Read e.Waiting)) = a.TooLong
  copy_answer (Err (r.Write fault)) = a.Room

  -- The place that the result names, or 0. A fault of syntax at 3 has 3.
  abbrev pub copy_place : Result (Unit {0}) (RecodeError E F) → ℕ
  copy_place (Err (r.Read (e.Syntax place))) = place
  copy_place copied = 0
