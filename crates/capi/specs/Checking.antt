-- The result of `cll_strict`.
use Rattle.std.specs.Prelude.{◌≡◌, ℕ, ◌+◌, List, length}
use Rattle.ciborium_ll_grammar.specs.declared.spelling.Spelling.TheVariants.{Shortest}
use Rattle.ciborium_ll.specs.Faults.{Short, Syntax, BeginsWithElements, HasFault}
use Rattle.capi.specs.declared.answer.CllAnswer.{CllAnswer}
use Rattle.capi.specs.declared.answer.CllAnswer.TheVariants as a
use Rattle.capi.specs.declared.answer.CllReport.{CllReport}
use Rattle.capi.specs.Answers.{ReportsCopy}

-- The result of `cll_strict`, by its answer. The bytes begin with `count` elements in their shortest spelling, or with
-- the first fault of a strict read. Nothing is written. If the bytes end too early, the place is a number of bytes
-- (`ElementsLack`). One element `17` is `Ok`, and `18 17` is a `Syntax` at 0.
abbrev pub Checks : ℕ → List ℕ → CllAnswer → CllReport → Type 0
Checks count bytes a.Ok report = (front : BeginsWithElements Shortest count bytes)
    × ReportsCopy report (length front.elements) 0 0
Checks count bytes a.Short report =
    (fault : HasFault Shortest count bytes) × (fault.answer ≡ Short)
    × ReportsCopy report (length fault.before + fault.consumed) 0 report.place
Checks count bytes a.Syntax report =
    (fault : HasFault Shortest count bytes) × (fault.answer ≡ Syntax report.place)
    × ReportsCopy report (length fault.before + fault.consumed) 0 report.place
Checks count bytes answer report = ⊥
