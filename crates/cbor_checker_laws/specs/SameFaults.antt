-- The answers of a checker of `cbor_checker` and of `skip_item` of `cbor_skip` to some bytes. If the checker names a
-- fault, the definitions below also say what the skip answers to the same bytes with any more after them.
use Rattle.std.specs.Prelude.{◌≡◌, ℕ, ◌+◌, ◌⊎◌, Bool, false, List, [], ◌++◌, length, Result, Ok, Err}
use Rattle.ciborium_ll_grammar.specs.declared.spelling.Spelling.{Spelling}
use Rattle.ciborium_ll_grammar.specs.Faults.{Short, Syntax}
use Rattle.ciborium_ll_grammar.specs.declared.hdr.Header.{Header}
use Rattle.ciborium_ll_grammar.specs.Title.{IsTitle}
use Rattle.ciborium_ll_grammar.specs.Items.{IsTakenTitle}
use Rattle.ciborium_ll_decoder.specs.declared.dec.Error.TheVariants as e
use Rattle.cbor_skip.specs.declared.SkipError.{SkipError}
use Rattle.cbor_skip.specs.declared.SkipError.TheVariants as s
use Rattle.cbor_skip.specs.Due.{IsNest, ItemDue}
use Rattle.cbor_skip.specs.ItemFaults.{HasDeepNest, HasEarlyBreak, HasItemFault, BeginsWithItem}
use Rattle.cbor_checker.specs.declared.phase.Fault.{Fault}
use Rattle.cbor_checker.specs.declared.phase.Fault.TheVariants as f
use Rattle.cbor_checker.specs.declared.progress.Progress.{Progress}
use Rattle.cbor_checker.specs.declared.progress.Progress.TheVariants as r
use Rattle.cbor_checker.specs.declared.checker.Checker.{Checker}
use Rattle.cbor_checker.specs.Checking.{Answers, HasRead}
use Rattle.cbor_checker.specs.Reading.{IsMore, Tells}

-- The answer of a checker that was fed the bytes. It has read a beginning of them, and all of them if more are due. The
-- answer is true of what it has read. For `01 02` it has read `01`, and answers `Ended(1)`.
pub record FeedTells (allowed : Spelling) (depth : ℕ) (bytes : List ℕ) (progress : Progress) : Type 0 where
  pub taken : List ℕ
  pub rest : List ℕ
  pub is : bytes ≡ taken ++ rest
  pub all : IsMore progress → rest ≡ []
  pub tells : Tells allowed depth taken progress
  pub checker : Checker
  pub has_read : HasRead allowed depth taken checker
  pub answers : Answers checker progress

-- The answer of a skip of the bytes, which begins at the offset 0. The bytes begin with an item, or end too early, or
-- are at fault at the named place. The fault may be a break or a nest that may not stand there. For `82 01 ff`, with a
-- depth of 1 or more, it is `Break(2)`.
abbrev pub SkipTells : {E : Type 0} → Spelling → ℕ → List ℕ → Result (Unit {0}) (SkipError E) → Type 0
SkipTells allowed depth bytes (Ok done) = BeginsWithItem allowed depth bytes
SkipTells allowed depth bytes (Err (s.Break at)) = (met : HasEarlyBreak allowed depth bytes) × (at ≡ length met.before)
SkipTells allowed depth bytes (Err (s.Deep at)) = (met : HasDeepNest allowed depth bytes) × (at ≡ length met.before)
SkipTells allowed depth bytes (Err (s.Read (e.Syntax at))) =
    (met : HasItemFault allowed depth bytes) × (met.answer ≡ Syntax at)
SkipTells allowed depth bytes (Err (s.Read (e.Io error))) =
    (met : HasItemFault allowed depth bytes) × (met.answer ≡ Short)
SkipTells allowed depth bytes (Err (s.Read e.TooLong)) = ⊥
SkipTells allowed depth bytes (Err (s.Read e.Waiting)) = ⊥

-- A checker that has read these bytes answers this fault: `Break(2)` for `82 01 ff`, if the depth is 1 or more.
pub record Names (allowed : Spelling) (depth : ℕ) (fed : List ℕ) (fault : Fault) : Type 0 where
  pub checker : Checker
  pub has_read : HasRead allowed depth fed checker
  pub answers : Answers checker (r.Fault fault)

-- The bytes begin no item, whatever follows them. Nothing makes an item of `ff`, but `02` makes one of `82 01`, if the
-- depth is 1 or more.
abbrev pub BeginsNoItem : Spelling → ℕ → List ℕ → Type 0
BeginsNoItem allowed depth bytes = (more : List ℕ) → BeginsWithItem allowed depth (bytes ++ more) → ⊥

-- After a beginning of an item a tag, an array or a map stands for which no level is left. Its title isn't the
-- shortest, and only the shortest is taken (RFC 7049, 3.9). So there are two faults at one place: with depth 0, in `98
-- 00`.
pub record HasLongNest (allowed : Spelling) (depth : ℕ) (bytes : List ℕ) : Type 0 where
  pub before : List ℕ
  pub title : List ℕ
  pub header : Header
  pub rest : List ℕ
  pub closable : Bool
  pub item_due : ItemDue allowed false depth before 0 closable
  pub is_title : IsTitle title header
  pub untaken : IsTakenTitle allowed title header → ⊥
  pub is_nest : IsNest header
  pub is : bytes ≡ before ++ (title ++ rest)

-- The fault that a checker names if a skip finds a fault of syntax at this offset: that fault there. If two faults
-- stand there, the checker names the nest: it sees the nest with the first byte, and whether the title is the shortest
-- only with the next bytes. A skip reads the whole title first. With depth 0, a strict checker of `98 00` names
-- `Deep(0)`, and a skip `Syntax(0)`.
abbrev pub NamesSyntax : Spelling → ℕ → List ℕ → ℕ → Fault → Type 0
NamesSyntax allowed depth due at fault =
    (fault ≡ f.Syntax at)
    ⊎ ((nest : HasLongNest allowed depth due) × (length nest.before ≡ at) × (fault ≡ f.Deep at))

-- The answer of a skip that began at the offset `from` is the fault: the same kind, and the same place counted from
-- there. It may be a fault of syntax there if `NamesSyntax` says so. Otherwise it is that the bytes end too early, and
-- never an item. If the fault is `Break(2)` and `from` is 10, `Break(12)` is such an answer.
abbrev pub AnswersFault : {E : Type 0} → Spelling → ℕ → List ℕ → Fault → ℕ → Result (Unit {0}) (SkipError E) → Type 0
AnswersFault allowed depth due fault from (Ok done) = ⊥
AnswersFault allowed depth due fault from (Err (s.Break at)) = (place : ℕ) × (at ≡ from + place)
    × (fault ≡ f.Break place)
AnswersFault allowed depth due fault from (Err (s.Deep at)) = (place : ℕ) × (at ≡ from + place) × (fault ≡ f.Deep place)
AnswersFault allowed depth due fault from (Err (s.Read (e.Syntax at))) =
    (place : ℕ) × (at ≡ from + place) × NamesSyntax allowed depth due place fault
AnswersFault allowed depth due fault from (Err (s.Read (e.Io error))) = Unit {0}
AnswersFault allowed depth due fault from (Err (s.Read e.TooLong)) = ⊥
AnswersFault allowed depth due fault from (Err (s.Read e.Waiting)) = ⊥
