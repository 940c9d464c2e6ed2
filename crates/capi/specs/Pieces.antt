-- The results of the calls of a copier. C keeps the copier in memory of its own.
use Rattle.std.specs.Prelude.{◌≡◌, ◌+◌, ◌<◌, ◌≤◌, ◌↔◌, ℕ, List, [], ◌++◌, drop, length, take}
use Rattle.ciborium_ll_grammar.specs.declared.limits.TheConstants.{LONGEST_AFFIX}
use Rattle.ciborium_ll_grammar.specs.declared.spelling.Spelling.{Spelling}
use Rattle.cbor_copier.specs.declared.copier.Copier.{Copier}
use Rattle.cbor_copier.specs.declared.progress.Progress.{Progress}
use Rattle.cbor_copier.specs.declared.progress.Progress.TheVariants as r
use Rattle.cbor_copier.specs.declared.progress.End.{End}
use Rattle.cbor_copier.specs.declared.progress.End.TheVariants as e
use Rattle.cbor_copier.specs.Copying.{Answers, AnswersEnd, HasCopied, HoldsSome, Keeps, pending}
use Rattle.cbor_copier.specs.Reading.{AreSpelled, GoesOn, IsLast, Tells, TellsEnd}
use Rattle.capi.specs.declared.answer.CllAnswer.{CllAnswer}
use Rattle.capi.specs.declared.answer.CllAnswer.TheVariants as a
use Rattle.capi.specs.declared.answer.CllReport.{CllReport}
use Rattle.capi.specs.declared.copier.CllCopier.{CllCopier}
use Rattle.capi.specs.Answers.{Reports}

-- This memory holds a copier of `count` elements, for `Shortest` in their shortest spelling, which has read and written
-- exactly these bytes. The mark is "elements" in ASCII. After `cll_copier_feed` took `18 01` in a room of 1, it holds
-- one for any spelling that has read `18 01` and written `01`.
pub record IsCopyKept (allowed : Spelling) (count : ℕ) (read written : List ℕ) (copier : CllCopier) : Type 0 where
  pub mark : copier.mark ≡ 7308327815843050611
  pub state : Keeps allowed count read written copier.state

-- This memory holds a copier, even if no bytes lead to its state. With the mark 0 it does not.
pub record IsCopier (copier : CllCopier) : Type 0 where
  pub mark : copier.mark ≡ 7308327815843050611
  pub state : HoldsSome copier.state

-- This memory holds no copier. Memory with the mark 0 holds none.
abbrev pub IsNoCopier : CllCopier → Type 0
IsNoCopier copier = IsCopier copier → ⊥

-- This memory holds a copier of `count` elements, which has read no byte and written none. If `count` is 2, two
-- elements are due.
abbrev pub IsCopierOf : Spelling → ℕ → CllCopier → Type 0
IsCopierOf allowed count copier = IsCopyKept allowed count [] [] copier

-- The answer that stands for the progress that `feed` of `cbor_copier` returns. `More`, as for one element after `18`,
-- has `Short`.
abbrev pub progress_answer : Progress → CllAnswer
progress_answer r.Ended = a.Ok
progress_answer r.More = a.Short
progress_answer r.Room = a.Room
progress_answer (r.Syntax place) = a.Syntax
progress_answer r.TooLong = a.TooLong

-- The place of this answer, or 0. `Syntax 3` has 3, and `More` has 0.
abbrev pub progress_place : Progress → ℕ
progress_place (r.Syntax place) = place
progress_place progress = 0

-- The answer that stands for the end that `end` of `cbor_copier` returns. `Ended`, as for 0 elements without a byte,
-- has `Ok`.
abbrev pub end_answer : End → CllAnswer
end_answer e.Ended = a.Ok
end_answer e.Short = a.Short
end_answer e.Room = a.Room
end_answer (e.Syntax place) = a.Syntax

-- The place of this answer, or 0. `Syntax 3` has 3, and `Short` has 0.
abbrev pub end_place : End → ℕ
end_place (e.Syntax place) = place
end_place end = 0

-- The answer with its place is that of the copier. After `1c` it is `Syntax` with 0.
abbrev pub IsAnswer : CllAnswer → ℕ → Copier → Type 0
IsAnswer answer place copier =
    (progress : Progress) × Answers copier progress × (answer ≡ progress_answer progress)
    × (place ≡ progress_place progress)

-- The answer with its place is that of the copier if no more bytes come. After `18` it is `Short` with 0.
abbrev pub IsEndAnswer : CllAnswer → ℕ → Copier → Type 0
IsEndAnswer answer place copier =
    (end : End) × AnswersEnd copier end × (answer ≡ end_answer end) × (place ≡ end_place end)

-- The meaning of an answer and its place for all bytes so far and for all that was written. They are `count` elements,
-- in their shortest spelling. Or more are due, and all that can be written is. Or there is more to write. Or the
-- elements never begin so, with a fault at this place (RFC 7049, 2.1 and 2.2). For one element of any spelling, `18 17`
-- with `17` written has the answer `Ok`.
abbrev pub SaysOf : Spelling → ℕ → List ℕ → List ℕ → CllAnswer → ℕ → Type 0
SaysOf allowed count whole output a.Ok place = Tells allowed count whole output r.Ended × (place ≡ 0)
SaysOf allowed count whole output a.Short place = Tells allowed count whole output r.More × (place ≡ 0)
SaysOf allowed count whole output a.Room place = Tells allowed count whole output r.Room × (place ≡ 0)
SaysOf allowed count whole output a.Syntax place = Tells allowed count whole output (r.Syntax place)
SaysOf allowed count whole output a.TooLong place = Tells allowed count whole output r.TooLong × (place ≡ 0)
SaysOf allowed count whole output answer place = ⊥

-- The call consumed and wrote no more bytes than there are, whatever the memory of the copier held. The output is as it
-- was after the written bytes. After 1 byte is written to `00 00`, the second is still `00`.
pub record StaysWithin (bytes out output : List ℕ) (report : CllReport) : Type 0 where
  pub taken : report.consumed ≤ length bytes
  pub written : report.written ≤ length out
  pub kept : drop report.written output ≡ drop report.written out

-- The result of `cll_copier_feed` for a piece, and for a copier that has read and written some bytes. `goes`: the call
-- takes a byte only if the elements go on after all bytes before it. It takes all bytes if more are due, and fewer if
-- no more can be counted. It writes as much as there is room for, if there is more. The answer holds for all bytes so
-- far and for all that was written (RFC 7049, 2.1 and 2.2).
--
-- The other lines speak of any copier that has read and written the same bytes. `fits`: if nothing was pending, a room
-- of eight bytes more than the piece has is enough. `answers`: unless no more can be counted, the answer and its place
-- are the copier's. `stays`: after an end or a fault nothing is taken or written.
--
-- For one element of any spelling, after `18`, the piece `17 01` in a room of 1 is `Ok`: one byte is consumed, and `17`
-- is written.
pub record FeedsCopied (allowed : Spelling) (count : ℕ) (read written bytes out : List ℕ) (answer : CllAnswer)
    (output : List ℕ) (report : CllReport) (new : CllCopier) : Type 0 where
  pub goes : (len : ℕ) → len < report.consumed → GoesOn allowed count (read ++ take len bytes)
  pub all : answer ≡ a.Short → report.consumed ≡ length bytes
  pub long : answer ≡ a.TooLong → report.consumed < length bytes
  pub full : answer ≡ a.Room → report.written ≡ length out
  pub reports : Reports report report.consumed report.written report.place
  pub says : SaysOf allowed count (read ++ take report.consumed bytes) (written ++ take report.written output) answer
      report.place
  pub is_kept : IsCopyKept allowed count (read ++ take report.consumed bytes) (written ++ take report.written output)
      new
  pub fits : (copier : Copier) → HasCopied allowed count read written copier → pending copier ≡ []
      → length bytes + LONGEST_AFFIX ≤ length out → answer ≡ a.Room → ⊥
  pub answers : (answer ≡ a.TooLong → ⊥) → (copier : Copier)
      → HasCopied allowed count (read ++ take report.consumed bytes) (written ++ take report.written output) copier
      → IsAnswer answer report.place copier
  pub stays : (copier : Copier) (progress : Progress) → HasCopied allowed count read written copier
      → Answers copier progress
      → IsLast progress → (report.consumed ≡ 0) × (report.written ≡ 0)

-- The meaning of an answer and its place if no more bytes come: they are `count` elements, they are cut off, there is
-- more to write, or the elements never begin so. For one element `18` without output is `Short` with 0.
abbrev pub SaysOfEnd : Spelling → ℕ → List ℕ → List ℕ → CllAnswer → ℕ → Type 0
SaysOfEnd allowed count whole output a.Ok place = TellsEnd allowed count whole output e.Ended × (place ≡ 0)
SaysOfEnd allowed count whole output a.Short place = TellsEnd allowed count whole output e.Short × (place ≡ 0)
SaysOfEnd allowed count whole output a.Room place = TellsEnd allowed count whole output e.Room × (place ≡ 0)
SaysOfEnd allowed count whole output a.Syntax place = TellsEnd allowed count whole output (e.Syntax place)
SaysOfEnd allowed count whole output answer place = ⊥

-- The result of `cll_copier_end`: the answer holds for all bytes and for all that was written. `answers`: the answer
-- and its place are those of any copier that has read and written the same bytes. The answer is `Ok` exactly if the
-- bytes are `count` elements and their shortest spelling is written (RFC 7049, 2.1 and 2.2). For one element of any
-- spelling, `19 00 01` has `Ok` if `01` was written, and `Room` if nothing was.
pub record EndsCopied (allowed : Spelling) (count : ℕ) (read written : List ℕ) (answer : CllAnswer)
    (report : CllReport) : Type 0 where
  pub says : SaysOfEnd allowed count read written answer report.place
  pub exactly : answer ≡ a.Ok ↔ AreSpelled allowed count read written
  pub answers : (copier : Copier) → HasCopied allowed count read written copier → IsEndAnswer answer report.place copier
  pub reports : Reports report 0 0 report.place
