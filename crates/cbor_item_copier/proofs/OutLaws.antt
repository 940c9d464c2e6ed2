-- The output of a copy of elements for bytes that go on as an item.
use Rattle.std.proofs.Common.{◌≡◌, ℕ, ◌+◌, ◌-◌, ◌<◌, ◌⊎◌, List, [], ◌++◌, length, refl, sym, ap, ◌∙◌, arith, inl}
use Rattle.std.proofs.Common.{inr, append_assoc, append-nil, length-append}
use Rattle.std.proofs.lemmas.Bool.{cases_lt}
use Rattle.ciborium_ll_grammar.specs.declared.spelling.Spelling.TheVariants.{Any}
use Rattle.ciborium_ll_grammar.specs.Strings.{Kind, kind_header}
use Rattle.ciborium_ll_grammar.specs.Elements.{Mark, spelling, IsRun}
use Rattle.ciborium_ll_grammar.specs.Faults.{Answer, Short, Point, Due, Reaches, due, inside, body, body_inside}
use Rattle.ciborium_ll_grammar.specs.Faults.{IsInside, opened, deeper, HasFault, FirstFault, CutTitle}
use Rattle.ciborium_ll_grammar.proofs.ElementLaws.{one_run}
use Rattle.ciborium_ll_grammar.proofs.StrictFaultLaws.{no_fault}
use Rattle.ciborium_ll_text.proofs.Lists.{length_zero}
use Rattle.cbor_copier.specs.declared.phase.Phase.{Phase}
use Rattle.cbor_copier.specs.declared.phase.Phase.TheVariants as p
use Rattle.cbor_copier.specs.Reading.{ComesTo, NoneGoOn, TellsWhole}
use Rattle.cbor_copier.specs.Telling.{progress_in}
use Rattle.cbor_parser.specs.declared.strings.Within.{Within}
use Rattle.cbor_copier.proofs.Reached.{Tight, between}
use Rattle.cbor_copier.proofs.TellLaws.{any_run, title_short, in_front}
use Rattle.cbor_item_copier.proofs.RunLaws.{title_some, run_long, run_front, same_runs}

-- A copy of any spelling needs no strict spelling.
pub lenient : {bytes : List ℕ} {marks : List Mark} {i : Within} → Tight Any bytes marks i
lenient short = absurd cc

-- ---- with any number of elements, if more are due

-- The whole elements before a point, and the part of an element after them.
record Standing (before : List ℕ) (marks : List Mark) (point : Point) : Type 0 where
  number : ℕ
  elements : List ℕ
  element_marks : List Mark
  run : IsRun number elements element_marks
  behind : List ℕ
  is : before ≡ elements ++ behind
  again : (count : ℕ) → number < count → Reaches count before marks point
  all : ((marks ≡ element_marks) × (point ≡ Due)) ⊎ (0 < length behind)

inside_some : (kind : Kind) (u : List ℕ) (bodies : List (List ℕ)) → IsInside kind u bodies → 0 < length u
inside_some kind u bodies (opened {title = t} {strings = x} q are) = title_some t x (kind_header kind _) q
inside_some kind u bodies (deeper {outer = x} {inner = y} a b) =
    omega (arith, inside_some kind x _ a, length-append x y)

stands : {before elements : List ℕ} {marks element_marks : List Mark} {point : Point} {number : ℕ} (behind : List ℕ)
    → IsRun number elements element_marks → before ≡ elements ++ behind
    → ((count : ℕ) → number < count → Reaches count before marks point)
    → ((marks ≡ element_marks) × (point ≡ Due)) ⊎ (0 < length behind) → Standing before marks point
stands behind run is again all = search

standing : {count : ℕ} {before : List ℕ} {marks : List Mark} {point : Point} → Reaches count before marks point
    → Standing before marks point
standing (due {bytes = a} less run) =
    stands [] run (sym (append-nil a)) (λ m fewer. due fewer run) (inl (refl, refl))
standing (inside {bytes = a} {opens = u} {bodies = bs} {kind = k} less run i sound) =
    stands {elements = a} u run refl (λ m fewer. inside fewer run i sound) (inr (inside_some k u bs i))
standing (body {title = t} kind reach q) =
    let o = standing reach in
    stands (o.behind ++ t) o.run (ap (λ (z : List ℕ). z ++ t) o.is ∙ append_assoc o.elements o.behind t)
    (λ m fewer. body kind (o.again m fewer) q)
    (inr (omega (arith, title_some t [] _ q, length-append o.behind t, length-append t [])))
standing (body_inside {title = t} reach q) =
    let o = standing reach in
    stands (o.behind ++ t) o.run (ap (λ (z : List ℕ). z ++ t) o.is ∙ append_assoc o.elements o.behind t)
    (λ m fewer. body_inside (o.again m fewer) q)
    (inr (omega (arith, title_some t [] _ q, length-append o.behind t, length-append t [])))

-- A fault is a fault for each larger number of elements.
recount : {count : ℕ} {bytes : List ℕ} (f : HasFault Any count bytes) (m : ℕ) → (standing f.reach).number < m
    → HasFault Any m bytes
recount f m fewer = search ((standing f.reach).again m fewer)

module _ {count : ℕ} {bytes output : List ℕ} (c : ComesTo Any count bytes Short output) where
  long : length bytes ≡ length (standing c.fault.reach).elements + length (standing c.fault.reach).behind
      + length c.fault.ahead
  long =
      let f = c.fault in
      let o = standing f.reach in
      omega (arith, ap length f.is, ap length o.is, length-append f.before f.ahead, length-append o.elements o.behind)

  cut_again : (m : ℕ) → length bytes < m → ComesTo Any m bytes Short output
  unfolding recount
  cut_again m fewer =
      let o = standing c.fault.reach in
      let few = run_long o.number o.elements o.element_marks o.run in
      record { fault = recount c.fault m (omega (arith, few, fewer, long)); answered = c.answered; written = c.written }

pub cut_in : (phase : Phase) (count m : ℕ) (bytes output : List ℕ)
    → TellsWhole Any count bytes output (progress_in phase)
    → (NoneGoOn Any count bytes → ⊥) → length bytes < m → ComesTo Any m bytes Short output
cut_in p.Ended count m bytes output says goes fewer =
    let few = run_long count bytes says.marks says.run.run in
    title_short {left = m - count} [] (between
    (record { before = count; run = says.run.run; counted = omega (arith, few, fewer) }) (omega (arith, few, fewer))
    lenient)
    (sym (append-nil bytes)) tt says.spelled
cut_in (p.Faulted place) count m bytes output says goes fewer = absurd (goes says.0)
cut_in phase count m bytes output says goes fewer = cut_again says.0 m fewer

-- ---- if the bytes are whole elements, all of them are written

short_written : {before ahead written : List ℕ} {marks : List Mark} {at : Point} {answer : Answer} {consumed : ℕ}
    → FirstFault Any before marks at ahead answer written consumed → at ≡ Due → answer ≡ Short
    → written ≡ spelling marks
short_written (CutTitle here is_cut) e is_short = refl
short_written fault e is_short = absurd cc

pub whole_in : {count : ℕ} {bytes output : List ℕ} (n : ℕ) (marks : List Mark) → IsRun n bytes marks
    → ComesTo Any count bytes Short output → output ≡ spelling marks
whole_in {bytes = bytes} n marks run c =
    let f = c.fault in
    let o = standing f.reach in
    elim (cases_lt o.number n) [
      | inl less ↦ absurd (no_fault Any n bytes (in_front (any_run run)) (recount f n less))
      | inr enough ↦ (
          let front = run_front n o.number o.elements o.element_marks o.run enough in
          let rest = o.behind ++ f.ahead in
          let parts : bytes ++ [] ≡ front.elements ++ (front.rest ++ rest) =
          append-nil bytes ∙ f.is ∙ ap (λ (z : List ℕ). z ++ f.ahead)
          (o.is ∙ ap (λ (z : List ℕ). z ++ o.behind) front.is) ∙ simp append_assoc in
          let same = one_run n bytes marks run front.elements [] (front.rest ++ rest) front.marks front.run parts in
          let none = ap length same.2 in
          let bare = length_zero front.rest (omega (arith, none, length-append front.rest rest)) in
          let whole : bytes ≡ o.elements = same.0 ∙ sym (rw (bare, append-nil) at front.is) in
          elim o.all [
            | inl both ↦ sym c.written ∙ short_written f.fault both.1 c.answered ∙ ap spelling (both.0
                ∙ sym (same_runs n bytes marks run o.number o.elements o.element_marks o.run whole).1)
            | inr some ↦ absurd (omega (
              arith,
              some,
              none,
              length-append front.rest rest,
              length-append o.behind f.ahead,
            ))
          ]
          )
    ]
