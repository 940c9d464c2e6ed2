-- The result of `cll_skip`.
use Rattle.std.specs.Prelude.{◌≡◌, ℕ, ◌+◌, List, length, Result, Ok, Err}
use Rattle.ciborium_ll_grammar.specs.declared.spelling.Spelling.TheVariants.{Any}
use Rattle.ciborium_ll.specs.Types.Error.TheVariants as e
use Rattle.ciborium_ll.specs.Faults.{Short, Syntax}
use Rattle.cbor_skip.specs.declared.SkipError.{SkipError}
use Rattle.cbor_skip.specs.declared.SkipError.TheVariants as s
use Rattle.cbor_skip.specs.ItemFaults.{HasDeepNest, HasEarlyBreak, HasItemFault, BeginsWithItem}
use Rattle.capi.specs.declared.answer.CllAnswer.{CllAnswer}
use Rattle.capi.specs.declared.answer.CllAnswer.TheVariants as a
use Rattle.capi.specs.declared.answer.CllReport.{CllReport}
use Rattle.capi.specs.Answers.{Reports}

-- The result of `cll_skip`, by its answer: the item with which the bytes begin, or a fault that stops the read of it.
-- Nothing is written. If the bytes end too early, the place is a number of bytes (`ItemLacks`). To a depth of 1, 3
-- bytes of `82 01 02 03` are consumed, and `81 ff` is `BreakDue` at 1.
abbrev pub Skips : ℕ → List ℕ → CllAnswer → CllReport → Type 0
Skips depth bytes a.Ok report = (front : BeginsWithItem Any depth bytes) × Reports report (length front.item) 0 0
Skips depth bytes a.Short report =
    (fault : HasItemFault Any depth bytes) × (fault.answer ≡ Short)
    × Reports report (length fault.before + fault.consumed) 0 report.place
Skips depth bytes a.Syntax report =
    (fault : HasItemFault Any depth bytes) × (fault.answer ≡ Syntax report.place)
    × Reports report (length fault.before + fault.consumed) 0 report.place
Skips depth bytes a.BreakDue report =
    (fault : HasEarlyBreak Any depth bytes) × Reports report (length fault.before + 1) 0 (length fault.before)
Skips depth bytes a.TooDeep report =
    (fault : HasDeepNest Any depth bytes)
    × Reports report (length fault.before + length fault.title) 0 (length fault.before)
Skips depth bytes answer report = ⊥

module _ {E : Type 0} where
  -- The answer that stands for the result of `skip_item`. A break at 1, as in `81 ff`, has `BreakDue`.
  abbrev pub skip_answer : Result (Unit {0}) (SkipError E) → CllAnswer
  skip_answer (Ok done) = a.Ok
  skip_answer (Err (s.Read (e.Io fault))) = a.Short
  skip_answer (Err (s.Read (e.Syntax place))) = a.Syntax
  skip_answer (Err (s.Read e.TooLong)) = a.TooLong
  skip_answer (Err (s.Read e.Waiting)) = a.TooLong
  skip_answer (Err (s.Break place)) = a.BreakDue
  skip_answer (Err (s.Deep place)) = a.TooDeep

  -- The place that the result names, or 0. For the break of `81 ff` it is 1.
  abbrev pub skip_place : Result (Unit {0}) (SkipError E) → ℕ
  skip_place (Err (s.Read (e.Syntax place))) = place
  skip_place (Err (s.Break place)) = place
  skip_place (Err (s.Deep place)) = place
  skip_place skipped = 0
