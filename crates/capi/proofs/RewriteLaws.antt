-- The answers of `cll_canonical`, by the result of `canonical_into`.
use Rattle.std.proofs.Common.{◌≡◌, ℕ, ◌≤◌, ◌-◌, ◌∙◌, List, length, length-append, take, ap, sym, subst, refl}
use Rattle.std.proofs.Common.{arith}
use Rattle.cbor_canonical.specs.declared.Why.{Why}
use Rattle.cbor_canonical.specs.Canonical.{IsCanonical}
use Rattle.cbor_canonical.specs.Refusals.{HasRefusal}
use Rattle.cbor_canonical.specs.Room.{LacksMemory}
use Rattle.cbor_deterministic.specs.declared.Order.{Order}
use Rattle.capi.specs.declared.answer.CllAnswer.{CllAnswer}
use Rattle.capi.specs.declared.answer.CllAnswer.TheVariants as a
use Rattle.capi.specs.declared.answer.CllReport.{CllReport}
use Rattle.capi.specs.Answers.{Reports}
use Rattle.capi.specs.Rewriting.{Rewrites, is_written, is_refused, refusal_answer, refusal_place}
use Rattle.capi.proofs.DeterministicLaws.{reports_as}

-- An encoding that was written satisfies the relation of the call.
pub written_told : (order : Order) (depth len taken places : ℕ) (bytes rest out : List ℕ) (report : CllReport)
    → IsCanonical order depth bytes rest (take len out) → len ≤ length out → taken ≡ length bytes - length rest
    → Reports report taken len 0 → Rewrites order depth bytes places a.Ok out report
written_told order depth len taken places bytes rest out report canonical within same reports =
    let long : length bytes - length rest ≡ length canonical.item =
    omega (arith, ap (length {A = ℕ}) canonical.whole, length-append canonical.item rest) in
    is_written canonical within
    (reports_as report (length canonical.item) len 0 taken len 0 reports (same ∙ long) refl refl)

-- A refusal satisfies the relation of the call.
pub rewrite_refused : (order : Order) (depth offset place places : ℕ) (bytes out : List ℕ) (why : Why)
    (answer : CllAnswer) (report : CllReport) → HasRefusal depth bytes why offset → answer ≡ refusal_answer why
    → place ≡ refusal_place why offset → Reports report offset 0 place
    → Rewrites order depth bytes places answer out report
rewrite_refused order depth offset place places bytes out why answer report refusal same named reports =
    subst (λ (x : CllAnswer). Rewrites order depth bytes places x out report) (sym same)
    (is_refused why refusal (reports_as report offset 0 (refusal_place why offset) offset 0 place reports refl refl named))

-- The memory is too small for an output of the same length.
pub rewrite_lacks : (order : Order) (depth places : ℕ) (bytes old new : List ℕ) → length new ≡ length old
    → LacksMemory order depth bytes (length old) places → LacksMemory order depth bytes (length new) places
rewrite_lacks order depth places bytes old new same lacks =
    subst (λ (n : ℕ). LacksMemory order depth bytes n places) (sym same) lacks
