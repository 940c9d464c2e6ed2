-- Whole items in front of other bytes, and bytes that begin no list of items.
use Rattle.std.proofs.Common.{◌≡◌, ℕ, ◌<◌, ◌⊎◌, inl, inr, List, [], ◌∷◌, ◌++◌, length}
use Rattle.std.proofs.Common.{refl, sym, ap, subst, ◌∙◌, arith, append_assoc, append-nil, length-append}
use Rattle.std.proofs.Common.{Ok, Err, Result, Option}
use Rattle.ciborium_ll_grammar.specs.declared.spelling.Spelling.TheVariants.{Any}
use Rattle.ciborium_ll_grammar.specs.Items.{AreItems, IsItem, more_items, no_items}
use Rattle.ciborium_ll_grammar.proofs.AloneLaws.{title_some}
use Rattle.ciborium_ll_grammar.proofs.ItemLaws.{one_item}
use Rattle.ciborium_ll_text.proofs.Lists.{length_zero}
use Rattle.cbor_checker.specs.declared.phase.Fault.{Fault}
use Rattle.cbor_checker.specs.declared.phase.Phase.{Phase}
use Rattle.cbor_checker.specs.declared.phase.Phase.TheVariants as p
use Rattle.cbor_checker.specs.declared.checker.Checker.{Checker}
use Rattle.cbor_checker.specs.Checking.{HasRead, spot_of}
use Rattle.cbor_checker.specs.Spots.{Spot}
use Rattle.cbor_checker.specs.Steps.{IsFed, StepIn, fresh, more}
use Rattle.cbor_checker.specs.Telling.{EndedIn}
use Rattle.cbor_checker.proofs.ExactLaws.{ended_exact}
use Rattle.cbor_copier.proofs.StepLaws.{same_last}
use Rattle.cbor_item_copier.specs.declared.progress.Progress.TheVariants as r
use Rattle.cbor_item_copier.specs.Reading.{TellsWhole}
use Rattle.tool_verdicts.specs.declared.verdict.Verdict.{Verdict}
use Rattle.tool_verdicts.specs.declared.verdict.Verdict.TheVariants as v
use Rattle.tool_files.specs.Recodes.{AnswersItems, AreRespelled, BeginsNone, CopiesItems, EndWithin, Names, StopAt}
use Rattle.tool_files.specs.Recodes as s

-- The first of some items, and the others.
record FirstItem (depth : ℕ) (bytes : List ℕ) : Type 0 where
  item : List ℕ
  others : List ℕ
  count : ℕ
  is_item : IsItem Any depth item
  are : AreItems Any depth count others
  is : bytes ≡ item ++ others

-- Some items are none, or begin with an item.
first_of : (depth count : ℕ) (bytes : List ℕ) → AreItems Any depth count bytes
    → (bytes ≡ []) ⊎ FirstItem depth bytes
first_of depth count bytes no_items = inl refl
first_of depth count bytes (more_items {count = n} {title = t} {rest = r} {others = o} title taken completes others) =
    inr (record {
      item = t ++ (r ++ []);
      others = o;
      count = n;
      is_item = more_items title taken completes no_items;
      are = others;
      is = ap (λ (z : List ℕ). t ++ (z ++ o)) (sym (append-nil r)) ∙ sym (append_assoc t (r ++ []) o);
    })

item_some : (depth k : ℕ) (item : List ℕ) → AreItems Any depth k item → k ≡ 1 → 0 < length item
item_some depth k item no_items one = absurd (omega (arith, one))
item_some depth k item (more_items {title = t} {rest = r} {others = o} title taken completes others) one =
    omega (arith, title_some t _ title, length-append t (r ++ o))

-- Without their first item, items are items.
without_item : (depth count : ℕ) (item tail : List ℕ) → IsItem Any depth item
    → AreItems Any depth count (item ++ tail) → (n : ℕ) × AreItems Any depth n tail
without_item depth count item tail is are =
    elim (first_of depth count (item ++ tail) are) [
      | inl none ↦ absurd (omega (
        arith,
        item_some depth 1 item is refl,
        ap (length {A = ℕ}) none,
        length-append item tail,
      ))
      | inr first ↦ (
        first.count,
        subst (λ (z : List ℕ). AreItems Any depth first.count z)
            (one_item Any Any depth depth first.item item first.others tail first.is_item is (sym first.is)).1
            first.are,
      )
    ]

-- Without the items in front, items are items.
without_items : (depth k count : ℕ) (before outputs tail : List ℕ) → AreRespelled depth k before outputs
    → AreItems Any depth count (before ++ tail) → (n : ℕ) × AreItems Any depth n tail
without_items depth k count before outputs tail s.none are = (count, are)
without_items depth k count before outputs tail (s.more {count = j} {items = a} {item = b} front is spelled) are =
    let o = without_items depth j count a _ (b ++ tail) front
    (subst (λ (z : List ℕ). AreItems Any depth count z) (append_assoc a b tail) are) in
    without_item depth o.0 b tail is o.1

-- ---- a checker takes no byte after an item

no_step : (phase : Phase) (spot new : Spot) (byte : ℕ) → EndedIn phase → StepIn phase spot byte new → ⊥
no_step p.Ended spot new byte ended step = step
no_step phase spot new byte ended step = ended

-- Bytes are none, or end with a byte.
last_of : (bytes : List ℕ) → (bytes ≡ []) ⊎ ((front : List ℕ) × (last : ℕ) × (bytes ≡ front ++ last ∷ []))
last_of [] = inl refl
last_of (b ∷ bytes) =
    elim (last_of bytes) [
      | inl none ↦ inr ([], b, ap (λ (z : List ℕ). b ∷ z) none)
      | inr some ↦ inr (b ∷ some.0, some.1, ap (λ (z : List ℕ). b ∷ z) some.2)
    ]

-- If the bytes that a checker took begin with an item, they are the item.
none_after : (depth : ℕ) (fed : List ℕ) (spot : Spot) → IsFed Any depth fed spot → (item rest : List ℕ)
    → fed ≡ item ++ rest → IsItem Any depth item → rest ≡ []
none_after depth fed spot fresh item rest is one =
    length_zero rest (omega (arith, ap (length {A = ℕ}) is, length-append item rest))
none_after depth fed spot (more {bytes = a} {spot = old} byte small fed' step) item rest is one =
    elim (last_of rest) [
      | inl none ↦ none
      | inr some ↦ (
          let parts : a ++ byte ∷ [] ≡ (item ++ some.0) ++ some.1 ∷ [] =
          is ∙ ap (λ (z : List ℕ). item ++ z) some.2 ∙ sym (append_assoc item some.0 (some.1 ∷ [])) in
          let front = (same_last a (item ++ some.0) byte some.1 parts).0 in
          let none = none_after depth a old fed' item some.0 front one in
          let whole : a ≡ item = front ∙ ap (λ (z : List ℕ). item ++ z) none ∙ append-nil item in
          let ended = (ended_exact Any depth a old fed').1
          (subst (λ (z : List ℕ). IsItem Any depth z) (sym whole) one) in
          absurd (no_step old.phase old spot byte ended step)
          )
    ]

none_read : (depth : ℕ) (fed : List ℕ) (checker : Checker) → HasRead Any depth fed checker → (item rest : List ℕ)
    → fed ≡ item ++ rest → IsItem Any depth item → rest ≡ []
unfolding HasRead
none_read depth fed checker has_read item rest is one =
    none_after depth fed (spot_of checker) has_read item rest is one

-- Two beginnings of the same bytes: one is a beginning of the other.
one_longer : (a b c d : List ℕ) → a ++ b ≡ c ++ d
    → ((e : List ℕ) × (a ≡ c ++ e)) ⊎ ((e : List ℕ) × (c ≡ a ++ e))
one_longer [] b c d is = inr (c, refl)
one_longer (x ∷ a) b [] d is = inl (x ∷ a, refl)
one_longer (x ∷ a) b (y ∷ c) d is =
    let heads : x ≡ y = cc in
    let tails : a ++ b ≡ c ++ d = cc in
    elim (one_longer a b c d tails) [
      | inl longer ↦ inl (longer.0, cc (heads, longer.1))
      | inr shorter ↦ inr (shorter.0, cc (heads, shorter.1))
    ]

-- Items, and then bytes with which no item goes on, are no beginning of a list of items.
pub fault_begins_none : (depth k : ℕ) (before outputs fed front : List ℕ) (fault : Fault)
    → AreRespelled depth k before outputs → TellsWhole Any depth fed front (r.Fault fault) → Names depth fed fault
    → BeginsNone depth (before ++ fed)
fault_begins_none depth k before outputs fed front fault are told names behind count items =
    let o = without_items depth k count before outputs (fed ++ behind) are
    (subst (λ (z : List ℕ). AreItems Any depth count z) (append_assoc before fed behind) items) in
    elim (first_of depth o.0 (fed ++ behind) o.1) [
      | inl none ↦ absurd (omega (
        arith,
        ap (length {A = ℕ}) none,
        length-append fed behind,
        ap (length {A = ℕ}) told.1.is,
        length-append told.1.before (told.1.last ∷ []),
      ))
      | inr first ↦ elim (one_longer first.item first.others fed behind (sym first.is)) [
        | inl longer ↦ absurd (told.0 (longer.0, subst (λ (z : List ℕ). IsItem Any depth z) longer.1 first.is_item))
        | inr shorter ↦ (
            let none = none_read depth fed names.checker names.has_read first.item shorter.0 shorter.1 first.is_item in
            let whole : first.item ≡ fed ++ [] =
            sym (shorter.1 ∙ ap (λ (z : List ℕ). first.item ++ z) none ∙ append-nil first.item)
            ∙ sym (append-nil fed) in
            absurd (told.0 ([], subst (λ (z : List ℕ). IsItem Any depth z) whole first.is_item))
            )
      ]
    ]

-- Bytes that end within an item are no list of items.
pub cut_is_none : (depth : ℕ) (bytes output : List ℕ) (within : EndWithin depth bytes output)
    → 0 < length within.part → (count : ℕ) → AreItems Any depth count bytes → ⊥
cut_is_none depth bytes output within some count items =
    let o = without_items depth within.count count within.before within.outputs within.part within.are
    (subst (λ (z : List ℕ). AreItems Any depth count z) within.is items) in
    let due = within.told.0 in
    let begins = due.0.begins in
    elim (first_of depth o.0 within.part o.1) [
      | inl none ↦ absurd (omega (arith, some, ap (length {A = ℕ}) none))
      | inr first ↦ (
          let parts : first.item ++ (first.others ++ begins.0) ≡ (within.part ++ begins.0) ++ [] =
          sym (append_assoc first.item first.others begins.0)
          ∙ ap (λ (z : List ℕ). z ++ begins.0) (sym first.is) ∙ sym (append-nil (within.part ++ begins.0)) in
          let same = (one_item Any Any depth depth first.item (within.part ++ begins.0)
          (first.others ++ begins.0) [] first.is_item begins.1 parts).0 in
          omega (
            arith,
            due.1,
            due.2 begins.0 begins.1,
            ap (length {A = ℕ}) same,
            ap (length {A = ℕ}) first.is,
            length-append first.item first.others,
            length-append within.part begins.0,
          )
          )
    ]

stop_is_none : (depth : ℕ) (bytes : List ℕ) (verdict : Verdict) (output : List ℕ) → StopAt depth bytes verdict output
    → (count : ℕ) → AreItems Any depth count bytes → ⊥
stop_is_none depth bytes verdict output stop count items =
    stop.begins_none stop.rest count (subst (λ (z : List ℕ). AreItems Any depth count z)
    (stop.is ∙ sym (append_assoc stop.before stop.fed stop.rest)) items)

-- An answer of a copy of whole items names no fault of items.
pub answers_items : {R W : Type 0} (left : R → Option (List ℕ)) (got : W → Option (List ℕ)) (depth : ℕ)
    (most : Option ℕ) (due written : List ℕ) (answer : Result (Unit {0}) Verdict) (reader : R) (writer : W)
    → CopiesItems left got depth most due written answer reader writer → (count : ℕ) → AreItems Any depth count due
    → AnswersItems answer
answers_items left got depth most due written (Ok done) reader writer copies count items = tt
answers_items left got depth most due written (Err v.TooLong) reader writer copies count items = tt
answers_items left got depth most due written (Err (v.Failed error)) reader writer copies count items = tt
answers_items left got depth most due written (Err (v.Output error)) reader writer copies count items = tt
answers_items left got depth most due written (Err (v.Short place)) reader writer copies count items =
    cut_is_none depth due copies.0 copies.1 copies.2 count items
answers_items left got depth most due written (Err (v.Syntax place)) reader writer copies count items =
    stop_is_none depth due (v.Syntax place) copies.0 copies.1 count items
answers_items left got depth most due written (Err (v.Break place)) reader writer copies count items =
    stop_is_none depth due (v.Break place) copies.0 copies.1 count items
answers_items left got depth most due written (Err (v.Deep place)) reader writer copies count items =
    stop_is_none depth due (v.Deep place) copies.0 copies.1 count items
answers_items left got depth most due written (Err verdict) reader writer copies count items = absurd copies
