-- The answers of `cll_deterministic`, by the result of `deterministic_len`.
use Rattle.std.proofs.Common.{◌≡◌, ℕ, ◌↔◌, ◌∙◌, List, Result, Ok, Err, ap, sym, subst, refl, arith}
use Rattle.cbor_deterministic.specs.declared.Order.{Order}
use Rattle.cbor_deterministic.specs.declared.Order.TheVariants.{Bytewise, LengthFirst}
use Rattle.cbor_deterministic.specs.declared.Why.{Why}
use Rattle.cbor_deterministic.specs.declared.Refusal.{Refusal}
use Rattle.cbor_deterministic.specs.Deterministic.{HasDeterministic}
use Rattle.cbor_deterministic.specs.Refusals.{HasRefusal}
use Rattle.capi.specs.declared.answer.CllAnswer.{CllAnswer}
use Rattle.capi.specs.declared.answer.CllAnswer.TheVariants as a
use Rattle.capi.specs.declared.answer.CllReport.{CllReport}
use Rattle.capi.specs.Answers.{Reports, code}
use Rattle.capi.specs.Determining.{Determines, is_refused, named_place, order_code, why_answer}

-- A report of equal numbers is the same report.
pub reports_as : (report : CllReport) (consumed written place said wrote named : ℕ)
    → Reports report said wrote named → said ≡ consumed → wrote ≡ written → named ≡ place
    → Reports report consumed written place
reports_as report consumed written place said wrote named reports one two three = record {
  consumed_is = reports.consumed_is ∙ one;
  written_is = reports.written_is ∙ two;
  place_is = reports.place_is ∙ three;
  none_counted = reports.none_counted;
  none_whole = reports.none_whole;
  none_spelled = reports.none_spelled;
}

-- An answer and a report that stand for a refusal satisfy the relation of the call.
pub refusal_told : (order : Order) (depth offset place : ℕ) (bytes : List ℕ) (why : Why) (answer : CllAnswer)
    (report : CllReport) → HasRefusal order depth bytes why offset → answer ≡ why_answer why
    → place ≡ named_place why offset → Reports report offset 0 place → Determines order depth bytes answer report
refusal_told order depth offset place bytes why answer report refusal same named reports =
    subst (λ (x : CllAnswer). Determines order depth bytes x report) (sym same)
    (is_refused refusal (reports_as report offset 0 (named_place why offset) offset 0 place reports refl refl named))

-- The bytes begin with an item of exactly one length, which the report names.
pub item_exactly : (order : Order) (depth found len : ℕ) (bytes : List ℕ) (report : CllReport)
    → ◌≡◌ {A = Result ℕ Refusal} (Ok found) (Ok len) ↔ HasDeterministic order depth bytes len
    → Reports report found 0 0 → HasDeterministic order depth bytes len ↔ (a.Ok ≡ a.Ok) × (report.consumed ≡ len)
item_exactly order depth found len bytes report exact reports = (
  λ has. let same = exact.1 has in let number : found ≡ len = cc in (refl, reports.consumed_is ∙ number),
  λ told. exact.0 (ap (λ (n : ℕ). Ok n) (sym reports.consumed_is ∙ told.1)),
)

-- The bytes have exactly the refusal that the call returned.
pub refusal_exactly : (order : Order) (depth offset place : ℕ) (bytes : List ℕ) (why : Why) (refusal : Refusal)
    (answer : CllAnswer) (report : CllReport)
    → ◌≡◌ {A = Result ℕ Refusal} (Err refusal) (Err (record { why = why; place = offset }))
    ↔ HasRefusal order depth bytes why offset
    → answer ≡ why_answer refusal.why → place ≡ named_place refusal.why refusal.place
    → Reports report refusal.place 0 place → HasRefusal order depth bytes why offset
    → (answer ≡ why_answer why) × Reports report offset 0 (named_place why offset)
refusal_exactly order depth offset place bytes why refusal answer report exact same named reports has =
    let equal = exact.1 has in
    let is : refusal ≡ record { why = why; place = offset } = cc in
    let reason : refusal.why ≡ why = ap (λ (r : Refusal). r.why) is in
    let there : refusal.place ≡ offset = ap (λ (r : Refusal). r.place) is in (
      same ∙ ap why_answer reason,
      reports_as report offset 0 (named_place why offset) refusal.place 0 place reports there refl
          (named ∙ ap (λ (r : Refusal). named_place r.why r.place) is),
    )

-- No two orders have the same number.
pub one_order : (order other : Order) (number : ℕ) → number ≡ order_code order → number ≡ order_code other
    → order ≡ other
one_order Bytewise Bytewise number one two = refl
one_order Bytewise LengthFirst number one two = absurd (omega (arith, one, two))
one_order LengthFirst Bytewise number one two = absurd (omega (arith, one, two))
one_order LengthFirst LengthFirst number one two = refl

-- The same holds by the number of the order and by the number of the answer.
pub refusal_code : {Reported : Type 0} (keys order : Order) (depth offset number result : ℕ) (bytes : List ℕ) (why : Why)
    (answer : CllAnswer) → number ≡ order_code keys → number ≡ order_code order → result ≡ code answer
    → (HasRefusal order depth bytes why offset → (answer ≡ why_answer why) × Reported)
    → HasRefusal keys depth bytes why offset → (result ≡ code (why_answer why)) × Reported
refusal_code keys order depth offset number result bytes why answer named known is told has =
    let same = one_order keys order number named known in
    let told = told (subst (λ (x : Order). HasRefusal x depth bytes why offset) same has) in
    (is ∙ ap code told.0, told.1)
