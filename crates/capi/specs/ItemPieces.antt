-- The results of the calls of a copier of items. C keeps the copier in memory of its own.
use Rattle.std.specs.Prelude.{◌≡◌, ◌+◌, ◌<◌, ◌≤◌, ℕ, List, [], ◌++◌, length, take}
use Rattle.ciborium_ll_grammar.specs.declared.limits.TheConstants.{LONGEST_AFFIX}
use Rattle.ciborium_ll_grammar.specs.declared.spelling.Spelling.{Spelling}
use Rattle.cbor_item_copier.specs.declared.copier.ItemCopier.{ItemCopier}
use Rattle.cbor_item_copier.specs.declared.progress.Progress.{Progress}
use Rattle.cbor_item_copier.specs.declared.progress.Progress.TheVariants as r
use Rattle.cbor_item_copier.specs.declared.progress.End.{End}
use Rattle.cbor_item_copier.specs.declared.progress.End.TheVariants as e
use Rattle.cbor_item_copier.specs.Copying.{Answers, AnswersEnd, HasCopied, pending}
use Rattle.cbor_item_copier.specs.Reading.{IsLast, Tells, TellsEnd}
use Rattle.cbor_item_copier.specs.Snapshots.{HoldsSome, Keeps}
use Rattle.cbor_checker.specs.declared.phase.Fault.TheVariants as f
use Rattle.cbor_checker.specs.Reading.{GoesOn}
use Rattle.capi.specs.declared.answer.CllAnswer.{CllAnswer}
use Rattle.capi.specs.declared.answer.CllAnswer.TheVariants as a
use Rattle.capi.specs.declared.answer.CllReport.{CllReport}
use Rattle.capi.specs.declared.item_copier.CllItemCopier.{CllItemCopier}
use Rattle.capi.specs.Answers.{Reports}
use Rattle.capi.specs.Feeding.{fault_answer, fault_place}

-- This memory holds a copier of an item to the depth, which has read and written exactly these bytes. For `Shortest`
-- the item is one in its shortest spelling. The mark is "one item" in ASCII. After `cll_item_copier_feed` took `82 01`
-- with room for it, it holds a copier that has read and written `82 01`.
pub record IsItemCopyKept (allowed : Spelling) (depth : ℕ) (read written : List ℕ) (copier : CllItemCopier) : Type 0
  where
    pub mark : copier.mark ≡ 8029466375530767725
    pub state : Keeps allowed depth read written copier.state

-- This memory holds a copier of an item, even if no bytes lead to its state. With the mark 0 it does not.
pub record IsItemCopier (copier : CllItemCopier) : Type 0 where
  pub mark : copier.mark ≡ 8029466375530767725
  pub state : HoldsSome copier.state

-- This memory holds no copier of an item. Memory with the mark 0 holds none.
abbrev pub IsNoItemCopier : CllItemCopier → Type 0
IsNoItemCopier copier = IsItemCopier copier → ⊥

-- This memory holds a copier of an item to the depth, which has read no byte and written none. Without a byte
-- `cll_item_copier_end` says `Ok` of it.
abbrev pub IsItemSetUp : Spelling → ℕ → CllItemCopier → Type 0
IsItemSetUp allowed depth copier = IsItemCopyKept allowed depth [] [] copier

-- The answer that stands for the progress that `feed` returns. `More 2`, as after `43 01`, has `Short`.
abbrev pub item_answer : Progress → CllAnswer
item_answer (r.Ended len) = a.Ok
item_answer (r.More due) = a.Short
item_answer r.Room = a.Room
item_answer (r.Fault fault) = fault_answer fault
item_answer r.TooLong = a.TooLong

-- The number of this answer: the length of the item, how many bytes are due, or the place of a fault. It is 2 for
-- `More 2`, and 0 for `Room`.
abbrev pub item_number : Progress → ℕ
item_number (r.Ended len) = len
item_number (r.More due) = due
item_number (r.Fault fault) = fault_place fault
item_number progress = 0

-- The answer that stands for the end that `end` returns. `Between`, as after `01` that was written, has `Ok`.
abbrev pub item_end_answer : End → CllAnswer
item_end_answer e.Between = a.Ok
item_end_answer (e.Short due) = a.Short
item_end_answer e.Room = a.Room
item_end_answer (e.Fault fault) = fault_answer fault

-- The number of this answer: how many bytes were due, or the place of a fault. `Short 2` has 2, and `Between` has 0.
abbrev pub item_end_number : End → ℕ
item_end_number (e.Short due) = due
item_end_number (e.Fault fault) = fault_place fault
item_end_number end = 0

-- The answer with its number is that of the copier. With a byte pending it is `Room` with 0.
abbrev pub IsItemAnswer : CllAnswer → ℕ → ItemCopier → Type 0
IsItemAnswer answer number copier =
    (progress : Progress) × Answers copier progress × (answer ≡ item_answer progress)
    × (number ≡ item_number progress)

-- The answer with its number is that of the copier if no more bytes come. After `43 01` it is `Short` with 2.
abbrev pub IsItemEndAnswer : CllAnswer → ℕ → ItemCopier → Type 0
IsItemEndAnswer answer number copier =
    (end : End) × AnswersEnd copier end × (answer ≡ item_end_answer end) × (number ≡ item_end_number end)

-- The meaning of an answer and its number for all bytes so far and for all that was written. They are one item, of this
-- length, in its shortest spelling. Or at least this many bytes are due, and all that can be written is. Or there is
-- more to write. Or no item begins so, with a fault at this place (RFC 7049, 2.1 to 2.4 and 3.9). If any spelling is
-- allowed, `18 17` is `Ok` with 2 after `17` is written, and `Room` before.
abbrev pub SaysOfItem : Spelling → ℕ → List ℕ → List ℕ → CllAnswer → ℕ → Type 0
SaysOfItem allowed depth whole output a.Ok number = Tells allowed depth whole output (r.Ended number)
SaysOfItem allowed depth whole output a.Short number = Tells allowed depth whole output (r.More number)
SaysOfItem allowed depth whole output a.Room number = Tells allowed depth whole output r.Room × (number ≡ 0)
SaysOfItem allowed depth whole output a.Syntax number = Tells allowed depth whole output (r.Fault (f.Syntax number))
SaysOfItem allowed depth whole output a.BreakDue number = Tells allowed depth whole output (r.Fault (f.Break number))
SaysOfItem allowed depth whole output a.TooDeep number = Tells allowed depth whole output (r.Fault (f.Deep number))
SaysOfItem allowed depth whole output a.TooLong number = Tells allowed depth whole output r.TooLong × (number ≡ 0)
SaysOfItem allowed depth whole output answer number = ⊥

-- The result of `cll_item_copier_feed` for a piece, and for a copier that has read and written some bytes. `goes`: the
-- call takes a byte only if an item goes on after all bytes before it. It takes all bytes if more are due, and fewer if
-- no more can be counted. It writes as much as there is room for, if there is more. The answer holds for all bytes so
-- far and for all that was written (RFC 7049, 2.1 to 2.4 and 3.9).
--
-- The other lines speak of any copier that has read and written the same bytes. `fits`: if nothing was pending, a room
-- of eight bytes more than the piece has is enough. `answers`: unless no more can be counted, the answer and its number
-- are the copier's. `stays`: after an end or a fault nothing is taken or written.
--
-- If any spelling is allowed, after `18` the piece `17` is `Ok` with 2 in a room of 1, and `17` is written.
pub record FeedsItem (allowed : Spelling) (depth : ℕ) (read written bytes out : List ℕ) (answer : CllAnswer)
    (output : List ℕ) (report : CllReport) (new : CllItemCopier) : Type 0 where
  pub goes : (len : ℕ) → len < report.consumed → GoesOn allowed depth (read ++ take len bytes)
  pub all : answer ≡ a.Short → report.consumed ≡ length bytes
  pub long : answer ≡ a.TooLong → report.consumed < length bytes
  pub full : answer ≡ a.Room → report.written ≡ length out
  pub reports : Reports report report.consumed report.written report.place
  pub says : SaysOfItem allowed depth (read ++ take report.consumed bytes) (written ++ take report.written output)
      answer
      report.place
  pub is_kept : IsItemCopyKept allowed depth (read ++ take report.consumed bytes)
      (written ++ take report.written output) new
  pub fits : (copier : ItemCopier) → HasCopied allowed depth read written copier → pending copier ≡ []
      → length bytes + LONGEST_AFFIX ≤ length out → answer ≡ a.Room → ⊥
  pub answers : (answer ≡ a.TooLong → ⊥) → (copier : ItemCopier)
      → HasCopied allowed depth (read ++ take report.consumed bytes) (written ++ take report.written output) copier
      → IsItemAnswer answer report.place copier
  pub stays : (copier : ItemCopier) (progress : Progress) → HasCopied allowed depth read written copier
      → Answers copier progress → IsLast progress → (report.consumed ≡ 0) × (report.written ≡ 0)

-- The meaning of an answer and its number if no more bytes come. None came, or they are one item, all of it written. Or
-- they are cut off, or there is more to write, or no item begins so. After `43 01`, all of it written, it is `Short`
-- with 2.
abbrev pub SaysOfItemEnd : Spelling → ℕ → List ℕ → List ℕ → CllAnswer → ℕ → Type 0
SaysOfItemEnd allowed depth whole output a.Ok number = TellsEnd allowed depth whole output e.Between × (number ≡ 0)
SaysOfItemEnd allowed depth whole output a.Short number = TellsEnd allowed depth whole output (e.Short number)
SaysOfItemEnd allowed depth whole output a.Room number = TellsEnd allowed depth whole output e.Room × (number ≡ 0)
SaysOfItemEnd allowed depth whole output a.Syntax number =
    TellsEnd allowed depth whole output (e.Fault (f.Syntax number))
SaysOfItemEnd allowed depth whole output a.BreakDue number =
    TellsEnd allowed depth whole output (e.Fault (f.Break number))
SaysOfItemEnd allowed depth whole output a.TooDeep number =
    TellsEnd allowed depth whole output (e.Fault (f.Deep number))
SaysOfItemEnd allowed depth whole output answer number = ⊥

-- The result of `cll_item_copier_end`: the answer holds for all bytes and for all that was written. `answers`: the
-- answer and its number are those of any copier that has read and written the same bytes. If `01` came and nothing was
-- written, it is `Room` with 0.
pub record EndsItem (allowed : Spelling) (depth : ℕ) (read written : List ℕ) (answer : CllAnswer) (report : CllReport)
    : Type 0 where
  pub says : SaysOfItemEnd allowed depth read written answer report.place
  pub answers : (copier : ItemCopier) → HasCopied allowed depth read written copier
      → IsItemEndAnswer answer report.place copier
  pub reports : Reports report 0 0 report.place
