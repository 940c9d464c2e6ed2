-- The results of the calls of a checker. C keeps the checker in memory of its own.
use Rattle.std.specs.Prelude.{◌≡◌, ◌<◌, ◌≤◌, ℕ, List, [], ◌++◌, length, take}
use Rattle.ciborium_ll_grammar.specs.declared.spelling.Spelling.{Spelling}
use Rattle.cbor_checker.specs.declared.phase.Fault.{Fault}
use Rattle.cbor_checker.specs.declared.phase.Fault.TheVariants as f
use Rattle.cbor_checker.specs.declared.progress.Progress.{Progress}
use Rattle.cbor_checker.specs.declared.progress.Progress.TheVariants as r
use Rattle.cbor_checker.specs.declared.progress.End.{End}
use Rattle.cbor_checker.specs.declared.progress.End.TheVariants as e
use Rattle.cbor_checker.specs.declared.checker.Checker.{Checker}
use Rattle.cbor_checker.specs.Checking.{Answers, AnswersEnd, HasRead, HoldsSome, Keeps}
use Rattle.cbor_checker.specs.Reading.{GoesOn, Tells, TellsEnd}
use Rattle.capi.specs.declared.answer.CllAnswer.{CllAnswer}
use Rattle.capi.specs.declared.answer.CllAnswer.TheVariants as a
use Rattle.capi.specs.declared.answer.CllReport.{CllReport}
use Rattle.capi.specs.declared.checker.CllChecker.{CllChecker}
use Rattle.capi.specs.Answers.{Reports}

-- This memory holds a checker of an item to the depth, which has read exactly these bytes. For `Shortest` the item is
-- one in its shortest spelling. The mark is "ciborium" in ASCII. After `cll_checker_feed` took `82 01`, it holds a
-- checker that has read `82 01`.
pub record IsKept (allowed : Spelling) (depth : ℕ) (read : List ℕ) (checker : CllChecker) : Type 0 where
  pub mark : checker.mark ≡ 7163364913109890413
  pub state : Keeps allowed depth read checker.state

-- This memory holds a checker, even if no bytes lead to its state. With the mark 0 it does not.
pub record IsChecker (checker : CllChecker) : Type 0 where
  pub mark : checker.mark ≡ 7163364913109890413
  pub state : HoldsSome checker.state

-- This memory holds no checker. Memory with the mark 0 holds none.
abbrev pub IsNoChecker : CllChecker → Type 0
IsNoChecker checker = IsChecker checker → ⊥

-- This memory holds a checker of an item to the depth, which has read no byte. For `Shortest` the item is one in its
-- shortest spelling. Without a byte `cll_checker_end` says `Ok` of it.
abbrev pub IsSetUp : Spelling → ℕ → CllChecker → Type 0
IsSetUp allowed depth checker = IsKept allowed depth [] checker

-- The answer that stands for a fault. The break of `81 ff` has `BreakDue`.
abbrev pub fault_answer : Fault → CllAnswer
fault_answer (f.Syntax place) = a.Syntax
fault_answer (f.Break place) = a.BreakDue
fault_answer (f.Deep place) = a.TooDeep

-- The place of a fault. For the break of `81 ff` it is 1.
abbrev pub fault_place : Fault → ℕ
fault_place (f.Syntax place) = place
fault_place (f.Break place) = place
fault_place (f.Deep place) = place

-- The answer that stands for the progress that `feed` of `cbor_checker` returns. `More 2`, as after `19`, has `Short`.
abbrev pub progress_answer : Progress → CllAnswer
progress_answer (r.Ended len) = a.Ok
progress_answer (r.More due) = a.Short
progress_answer (r.Fault fault) = fault_answer fault
progress_answer r.TooLong = a.TooLong

-- The number of this answer: the length of the item, how many bytes are due, or the place of the fault. It is 2 after
-- `19`, and 3 after `19 01 00`.
abbrev pub progress_number : Progress → ℕ
progress_number (r.Ended len) = len
progress_number (r.More due) = due
progress_number (r.Fault fault) = fault_place fault
progress_number r.TooLong = 0

-- The answer that stands for the end that `end` of `cbor_checker` returns. `Between`, as after `01`, has `Ok`.
abbrev pub end_answer : End → CllAnswer
end_answer e.Between = a.Ok
end_answer (e.Short due) = a.Short
end_answer (e.Fault fault) = fault_answer fault

-- The number of this answer: how many bytes are due, or the place of the fault. It is 2 after `19`, and 0 after `01`.
abbrev pub end_number : End → ℕ
end_number e.Between = 0
end_number (e.Short due) = due
end_number (e.Fault fault) = fault_place fault

-- The answer with its number is that of the checker. After `19 01` it is `Short` with 1.
abbrev pub IsAnswer : CllAnswer → ℕ → Checker → Type 0
IsAnswer answer number checker =
    (progress : Progress) × Answers checker progress × (answer ≡ progress_answer progress)
    × (number ≡ progress_number progress)

-- The answer with its number is that of the checker if no more bytes come. After `19 01` it is `Short` with 1.
abbrev pub IsEndAnswer : CllAnswer → ℕ → Checker → Type 0
IsEndAnswer answer number checker =
    (end : End) × AnswersEnd checker end × (answer ≡ end_answer end) × (number ≡ end_number end)

-- The meaning of an answer and its number for all bytes so far. They are one item of this length. Or at least this many
-- more bytes are due. Or no item begins so, with a fault at this place (RFC 7049, 2.1 to 2.4). After `43 01` the answer
-- is `Short` with 2.
abbrev pub SaysOf : Spelling → ℕ → List ℕ → CllAnswer → ℕ → Type 0
SaysOf allowed depth whole a.Ok number = Tells allowed depth whole (r.Ended number)
SaysOf allowed depth whole a.Short number = Tells allowed depth whole (r.More number)
SaysOf allowed depth whole a.Syntax number = Tells allowed depth whole (r.Fault (f.Syntax number))
SaysOf allowed depth whole a.BreakDue number = Tells allowed depth whole (r.Fault (f.Break number))
SaysOf allowed depth whole a.TooDeep number = Tells allowed depth whole (r.Fault (f.Deep number))
SaysOf allowed depth whole a.TooLong number = Tells allowed depth whole r.TooLong × (number ≡ 0)
SaysOf allowed depth whole answer number = ⊥

-- The call consumed no more bytes than there are, and wrote nothing, whatever the memory of the checker held. From
-- `01 02` it consumed at most 2.
pub record TakesWithin (bytes : List ℕ) (report : CllReport) : Type 0 where
  pub taken : report.consumed ≤ length bytes
  pub written : report.written ≡ 0

-- The result of `cll_checker_feed` for a piece, and for a checker that has read some bytes. `goes`: the call takes a
-- byte only if an item goes on after all bytes before it. It takes all bytes if more are due, and fewer if no more can
-- be counted. The answer holds for all bytes so far (RFC 7049, 2.1 to 2.4). `answers`: unless no more can be counted,
-- the answer and its number are those of any checker that has read the same bytes. After `43 01` the piece `02 03 04` is
-- `Ok` with 4, and 2 bytes of it are consumed.
pub record Feeds (allowed : Spelling) (depth : ℕ) (read bytes : List ℕ) (answer : CllAnswer) (report : CllReport)
    (new : CllChecker) : Type 0 where
  pub taken : report.consumed ≤ length bytes
  pub goes : (len : ℕ) → len < report.consumed → GoesOn allowed depth (read ++ take len bytes)
  pub all : answer ≡ a.Short → report.consumed ≡ length bytes
  pub long : answer ≡ a.TooLong → report.consumed < length bytes
  pub reports : Reports report report.consumed 0 report.place
  pub says : SaysOf allowed depth (read ++ take report.consumed bytes) answer report.place
  pub is_kept : IsKept allowed depth (read ++ take report.consumed bytes) new
  pub answers : (answer ≡ a.TooLong → ⊥) → (checker : Checker)
      → HasRead allowed depth (read ++ take report.consumed bytes) checker → IsAnswer answer report.place checker

-- The meaning of an answer and its number if no more bytes come: none came or they are one item, they are cut off, or
-- no item begins so. After `43 01` it is `Short` with 2, and without a byte `Ok` with 0.
abbrev pub SaysOfEnd : Spelling → ℕ → List ℕ → CllAnswer → ℕ → Type 0
SaysOfEnd allowed depth whole a.Ok number = TellsEnd allowed depth whole e.Between × (number ≡ 0)
SaysOfEnd allowed depth whole a.Short number = TellsEnd allowed depth whole (e.Short number)
SaysOfEnd allowed depth whole a.Syntax number = TellsEnd allowed depth whole (e.Fault (f.Syntax number))
SaysOfEnd allowed depth whole a.BreakDue number = TellsEnd allowed depth whole (e.Fault (f.Break number))
SaysOfEnd allowed depth whole a.TooDeep number = TellsEnd allowed depth whole (e.Fault (f.Deep number))
SaysOfEnd allowed depth whole answer number = ⊥

-- The result of `cll_checker_end`: the answer holds for all bytes (RFC 7049, 2.1 to 2.4). `answers`: the answer and its
-- number are those of any checker that has read the same bytes. After `19 01` it is `Short` with 1.
pub record EndsFed (allowed : Spelling) (depth : ℕ) (read : List ℕ) (answer : CllAnswer) (report : CllReport) : Type 0
  where
    pub says : SaysOfEnd allowed depth read answer report.place
    pub answers : (checker : Checker) → HasRead allowed depth read checker → IsEndAnswer answer report.place checker
    pub reports : Reports report 0 0 report.place
