-- The elements that `cll_recode` and `cll_strict` count, each an element of the grammar (RFC 7049, 2.1 and 2.2).
use Rattle.std.specs.Prelude.{◌≡◌, ℕ, suc, ◌<◌, ◌≤◌, List, length, take, Result, Ok, Err}
use Rattle.ciborium_ll_grammar.specs.declared.spelling.Spelling.TheVariants.{Any, Shortest}
use Rattle.ciborium_ll.specs.Types.Read.{Ghosts as Reader}
use Rattle.ciborium_ll.specs.Types.Write.{Ghosts as Writer}
use Rattle.ciborium_ll.specs.Types.RecodeError.{RecodeError}
use Rattle.ciborium_ll.specs.Elements.{spelling}
use Rattle.ciborium_ll.specs.Faults.{BeginsWithElements}
use Rattle.ciborium_ll.specs.Recoding.{CopiesRun, StopsCopy}
use Rattle.ciborium_ll.specs.Sides.{Sides}
use Rattle.capi.specs.declared.answer.CllAnswer.{CllAnswer}
use Rattle.capi.specs.declared.answer.CllAnswer.TheVariants as a
use Rattle.capi.specs.declared.answer.CllReport.{CllReport}

-- The number of elements, by the answer of a copy into this room. Either all were done, and the last ends at the end of
-- the copy. Or fewer were done: the spelling of one more has no room, or the bytes do not begin with one more. For two
-- elements in `01 18 18` and a room of 2 the number is 1.
abbrev pub CountsTo : ℕ → List ℕ → ℕ → CllAnswer → CllReport → Type 0
CountsTo count bytes room a.Ok report = (report.elements ≡ count) × (report.whole ≡ report.consumed)
CountsTo count bytes room a.Room report =
    (report.elements < count)
    × ((more : BeginsWithElements Any (suc report.elements) bytes) → room < length (spelling more.marks))
CountsTo count bytes room answer report =
    (report.elements < count) × (BeginsWithElements Any (suc report.elements) bytes → ⊥)

-- The count of `cll_recode`. The bytes begin with the elements that were done, up to the offset that is reported. The
-- output begins with their spelling, which has the length that is reported, and was written. For two elements in
-- `18 17 19` one is done, up to 2, with 1 byte of spelling.
pub record CountsElements (count : ℕ) (bytes : List ℕ) (room : ℕ) (answer : CllAnswer) (output : List ℕ)
    (report : CllReport) : Type 0 where
  pub front : BeginsWithElements Any report.elements bytes
  pub ends : report.whole ≡ length front.elements
  pub stands : take report.spelled output ≡ spelling front.marks
  pub spelled : report.spelled ≡ length (spelling front.marks)
  pub written : report.spelled ≤ report.written
  pub counts : CountsTo count bytes room answer report

-- The number of elements in their shortest spelling, by the answer of a check (RFC 7049, 3.9). For two elements in
-- `01 18 17` it is 1.
abbrev pub CountsStrictTo : ℕ → List ℕ → CllAnswer → CllReport → Type 0
CountsStrictTo count bytes a.Ok report = (report.elements ≡ count) × (report.whole ≡ report.consumed)
CountsStrictTo count bytes answer report =
    (report.elements < count) × (BeginsWithElements Shortest (suc report.elements) bytes → ⊥)

-- The count of `cll_strict`: that of elements in their shortest spelling, with nothing written (RFC 7049, 3.9). For two
-- elements in `41 01 18 17` one is done, up to 2.
pub record CountsStrictly (count : ℕ) (bytes : List ℕ) (answer : CllAnswer) (report : CllReport) : Type 0 where
  pub front : BeginsWithElements Shortest report.elements bytes
  pub ends : report.whole ≡ length front.elements
  pub none_spelled : report.spelled ≡ 0
  pub counts : CountsStrictTo count bytes answer report

module _ {R E W F : Type 0} (source : Reader R E) (sink : Writer W F) where
  -- The number of elements, by the result of a copy through a buffer of this size. Either all were copied. Or fewer
  -- were copied, and a copy of one more stops at the same error, also a copy of that element alone after them. For two
  -- elements in `01 1c` the number is 1.
  abbrev pub EndsCount : ℕ → ℕ → Sides R W → Sides R W → Result (Unit {0}) (RecodeError E F) → Sides R W → ℕ → Type 0
  EndsCount count room old between (Ok done) new elements = (elements ≡ count) × (new ≡ between)
  EndsCount count room old between (Err error) new elements =
      (elements < count) × StopsCopy source sink (suc elements) room old error new
      × StopsCopy source sink 1 room between error new

  -- This many elements were copied. After them the decoder came to this offset, and this many bytes of them were
  -- written. From the offset 0 on, `18 17` has 1, 2 and 1.
  pub record CountsCopy (count room : ℕ) (old : Sides R W) (result : Result (Unit {0}) (RecodeError E F))
      (new : Sides R W) (elements whole spelled : ℕ) : Type 0 where
    pub between : Sides R W
    pub run : CopiesRun source sink elements old between
    pub behind : whole ≡ between.decoder.offset
    pub counted : spelled ≡ length (spelling run.marks)
    pub ends : EndsCount count room old between result new elements
