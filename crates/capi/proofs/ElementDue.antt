-- The bytes that are due after whole elements, if the next element is cut off.
use Rattle.std.proofs.Common.{◌≡◌, ℕ, zero, suc, ◌+◌, ◌-◌, ◌<◌, ◌≤◌, ◌⊎◌, inl, inr, List, [], ◌∷◌, ◌++◌, length}
use Rattle.std.proofs.Common.{take, drop, refl, sym, ap, subst, ◌∙◌, arith, append_assoc, append-nil, length-append}
use Rattle.std.specs.List.{AllByRecursion}
use Rattle.std.proofs.lemmas.Bool.{cases_lt}
use Rattle.std.proofs.lemmas.List.{take_all, length-drop}
use Rattle.std.proofs.Math.Seq.{drop-append_seam}
use Rattle.ciborium_ll.specs.Types.Header.{Header}
use Rattle.ciborium_ll.specs.Types.Header.TheVariants as h
use Rattle.ciborium_ll.specs.Title.{IsTitle}
use Rattle.ciborium_ll.specs.Elements.{Mark, Plain, IsPlain, IsElement, IsNoSmallSimple, IsRun, IsStrictSpelling, spelling, plain, done}
use Rattle.ciborium_ll.specs.Elements.{next as run_next}
use Rattle.ciborium_ll.specs.Faults.{BeginsWithElements}
use Rattle.ciborium_ll.specs.Items.{IsItem, IsTakenTitle}
use Rattle.ciborium_ll.proofs.AffixLaws.{cut_before}
use Rattle.ciborium_ll.proofs.FaultLaws.{follows}
use Rattle.ciborium_ll.proofs.Lists.{front_of_front, length_zero}
use Rattle.ciborium_ll.proofs.StepLaws.{add_element}
use Rattle.ciborium_ll_grammar.specs.declared.spelling.Spelling.{Spelling}
use Rattle.ciborium_ll_grammar.specs.declared.spelling.Spelling.TheVariants.{Shortest}
use Rattle.ciborium_ll_grammar.proofs.SpelledLaws.{spelled_alone, spelled_then}
use Rattle.cbor_skip.specs.ItemFaults.{BeginsWithItem}
use Rattle.capi.specs.Lacking.{CheckerLacks, ItemLacks, ElementsLack}
use Rattle.capi.proofs.CutTitles.{cut_lacks, title_least}
use Rattle.capi.proofs.ElementShapes.{StrictLaw, Shape, titled, whole_item, shape_of, first_of}
use Rattle.capi.proofs.ElementShapes.{title_item, break_long, zero_item, zero_title}

-- ---- runs

-- The bytes are this many elements.
record AreElements (allowed : Spelling) (count : ℕ) (bytes : List ℕ) : Type 0 where
  marks : List Mark
  run : IsRun count bytes marks
  spelled : allowed ≡ Shortest → IsStrictSpelling bytes marks []

-- An element is its own spelling, if only the shortest spelling is taken.
abbrev IsOwn : Spelling → List ℕ → List Mark → Type 0
IsOwn allowed word marks = allowed ≡ Shortest → (word ≡ spelling marks) × AllByRecursion IsNoSmallSimple marks

add : (allowed : Spelling) (count : ℕ) (bytes word : List ℕ) (marks : List Mark) → AreElements allowed count bytes
    → IsElement word marks → IsOwn allowed word marks → AreElements allowed (suc count) (bytes ++ word)
add allowed count bytes word marks are element own = record {
  marks = are.marks ++ marks;
  run = add_element count bytes are.marks are.run word marks element;
  spelled = λ on. spelled_then bytes are.marks word marks (are.spelled on) (own on).0 (own on).1;
}

-- With a number of zeros after them, the elements are that many more.
add_zeros : (allowed : Spelling) (count more all : ℕ) (bytes : List ℕ) → count + more ≡ all
    → AreElements allowed count bytes → (zeros : List ℕ) × AreElements allowed all (bytes ++ zeros)
add_zeros allowed count zero all bytes sum are =
    let same : count ≡ all = omega (arith, sum) in (
      [],
      subst (λ (n : ℕ). AreElements allowed n (bytes ++ [])) same
          (subst (AreElements allowed count) (sym (append-nil bytes)) are),
    )
add_zeros allowed count (suc more) all bytes sum are =
    let one = add allowed count bytes (0 ∷ []) (Plain (h.Positive 0) ∷ []) are (plain (h.Positive 0) zero_title tt)
    (λ on. (refl, ((λ small. small), tt))) in
    let others = add_zeros allowed (suc count) more all (bytes ++ 0 ∷ []) (omega (arith, sum)) one in
    ((0 ∷ []) ++ others.0, subst (AreElements allowed all) (append_assoc bytes (0 ∷ []) others.0) others.1)

-- A run of one element is an element.
element_of_one : (count : ℕ) (word : List ℕ) (marks : List Mark) → count ≡ 1 → IsRun count word marks
    → IsElement word marks
element_of_one count word marks single done = absurd (omega (arith, single))
element_of_one count word marks single (run_next {first = w} {marks = ms} element done) =
    subst (λ (z : List Mark). IsElement (w ++ []) z) (sym (append-nil ms))
    (subst (λ (z : List ℕ). IsElement z ms) (sym (append-nil w)) element)
element_of_one count word marks single (run_next first (run_next second rest)) = absurd (omega (arith, single))

break_or : (header : Header) → (header ≡ h.Break) ⊎ (header ≡ h.Break → ⊥)
break_or h.Break = inl refl
break_or header = inr (λ same. absurd cc)

-- ---- after whole elements

-- An element begins with these bytes, and its other bytes begin `more`.
record Next (allowed : Spelling) (before more : List ℕ) : Type 0 where
  next : List ℕ
  rest : List ℕ
  some : 0 < length next
  shape : Shape allowed (before ++ next)
  is : more ≡ next ++ rest

-- An element is cut off after these bytes, and its other bytes begin `more`.
record Split (before word more rest : List ℕ) : Type 0 where
  next : List ℕ
  some : 0 < length next
  word_is : word ≡ before ++ next
  more_is : more ≡ next ++ rest

module _ (allowed : Spelling) (law : StrictLaw allowed) (whole : ℕ) (bytes : List ℕ)
    (front : BeginsWithElements allowed whole bytes)
    (cut : BeginsWithElements allowed (suc whole) bytes → ⊥) where
  whole_elements : AreElements allowed whole front.elements
  whole_elements = record { marks = front.marks; run = front.run; spelled = front.spelled }

  -- No element follows the whole elements.
  none_behind : (word rest : List ℕ) (marks : List Mark) → IsElement word marks → IsOwn allowed word marks
      → front.rest ≡ word ++ rest → ⊥
  none_behind word rest marks element own is =
      let one = add allowed whole front.elements word marks whole_elements element own in
      cut (record {
        elements = front.elements ++ word;
        marks = one.marks;
        rest = rest;
        run = one.run;
        is = front.is ∙ ap (λ (z : List ℕ). front.elements ++ z) is
            ∙ sym (append_assoc front.elements word rest);
        spelled = one.spelled;
      })

  -- No item follows the whole elements.
  pub no_item : (depth : ℕ) → BeginsWithItem allowed depth front.rest → ⊥
  no_item depth item =
      let first = first_of allowed law depth item.item item.is_item in
      none_behind first.elements (first.rest ++ item.rest) first.marks
      (element_of_one 1 first.elements first.marks refl first.run)
      (λ on. (spelled_alone first.elements first.marks (first.spelled on), (first.spelled on).meant))
      (item.is ∙ ap (λ (z : List ℕ). z ++ item.rest) first.is
      ∙ append_assoc first.elements first.rest item.rest)

  -- An element that begins the rest and more bytes ends within these bytes.
  split : (word more rest : List ℕ) (marks : List Mark) → IsElement word marks → IsOwn allowed word marks
      → front.rest ++ more ≡ word ++ rest → Split front.rest word more rest
  split word more rest marks element own is =
      elim (cases_lt (length front.rest) (length word)) [
        | inl longer ↦ (
            let f = front_of_front front.rest word more rest is (omega (arith, longer)) in
            let counted = ap length f.1 in
            record {
              next = f.0;
              some = omega (arith, longer, counted, length-append front.rest f.0);
              word_is = f.1;
              more_is = f.2;
            }
            )
        | inr within ↦ (
            let f = front_of_front word front.rest rest more (sym is) within in
            absurd (none_behind word f.0 marks element own f.1)
            )
      ]

  next_element : (count : ℕ) (more : List ℕ) → whole < count → BeginsWithElements allowed count (bytes ++ more)
      → Next allowed front.rest more
  next_element count more fewer run =
      let same : front.elements ++ (front.rest ++ more) ≡ run.elements ++ run.rest =
      sym (append_assoc front.elements front.rest more) ∙ ap (λ (z : List ℕ). z ++ more) (sym front.is) ∙ run.is in
      let z = follows whole front.elements front.marks front.run count run.elements run.marks run.run fewer
      (front.rest ++ more) run.rest same in
      let own : IsOwn allowed z.word z.marks = λ on.
      z.spelled (spelled_alone run.elements run.marks (run.spelled on)) (run.spelled on).meant in
      let s = split z.word more z.rest z.marks z.ok own z.is in
      record {
        next = s.next;
        rest = z.rest;
        some = s.some;
        shape = subst (Shape allowed) s.word_is (shape_of allowed law z.word z.marks z.ok own);
        is = s.more_is;
      }

  module _ (due : ℕ) (lacks : ItemLacks allowed 1 front.rest due) where
    -- The bytes that complete an item are at least as many as are due.
    item_least : (next : List ℕ) → IsItem allowed 1 (front.rest ++ next) → (1 ≤ due) × (due ≤ length next)
    item_least next is_item =
        lacks.least next (record {
          item = front.rest ++ next;
          rest = [];
          is_item = is_item;
          is = sym (append-nil (front.rest ++ next));
        })

    -- Some bytes are due after the beginning of a title.
    title_positive : (next : List ℕ) (header : Header) → 0 < length next → IsTitle (front.rest ++ next) header
        → IsTakenTitle allowed (front.rest ++ next) header → IsPlain header → 1 ≤ due
    title_positive next header some is_title taken is_plain =
        elim (break_or header) [
          | inl same ↦ (
              let one = break_long (front.rest ++ next) (subst (IsTitle (front.rest ++ next)) same is_title) in
              let none : front.rest ≡ [] = length_zero front.rest
              (omega (arith, one, some, length-append front.rest next)) in
              (item_least (0 ∷ []) (subst (λ (z : List ℕ). IsItem allowed 1 (z ++ 0 ∷ [])) (sym none)
              (zero_item allowed 1))).0
              )
          | inr goes ↦ (
              let o = title_item allowed (front.rest ++ next) header is_title taken is_plain goes in
              (item_least (next ++ o.0) (subst (IsItem allowed 1) (append_assoc front.rest next o.0) o.1)).0
              )
        ]

    title_due_least : (next : List ℕ) (header : Header) → 0 < length next → IsTitle (front.rest ++ next) header
        → 1 ≤ due → due ≤ length next
    title_due_least [] header some is_title positive = absurd (omega (arith, some))
    title_due_least (b ∷ next) header some is_title positive =
        let is_cut = cut_before front.rest b next header is_title in
        let checker = lacks.checker positive in
        let same = cut_lacks allowed 1 front.rest checker.checker due checker.has_read is_cut checker.lacks in
        omega (arith, same, title_least front.rest (b ∷ next) header is_title)

    next_least : (next : List ℕ) → 0 < length next → Shape allowed (front.rest ++ next)
        → (1 ≤ due) × (due ≤ length next)
    next_least next some (whole_item is_item) = item_least next is_item
    next_least next some (titled header is_title taken is_plain) =
        let positive = title_positive next header some is_title taken is_plain in
        (positive, title_due_least next header some is_title positive)

    least : (count : ℕ) (more : List ℕ) → whole < count → BeginsWithElements allowed count (bytes ++ more)
        → (1 ≤ due) × (due ≤ length more)
    least count more fewer run =
        let o = next_element count more fewer run in
        let found = next_least o.next o.some o.shape in
        let counted = ap length o.is in
        (found.0, omega (arith, found.1, counted, length-append o.next o.rest))

    -- Some bytes complete the cut element, and zeros after them are the other elements.
    some_follow : (count : ℕ) → whole < count → 1 ≤ due
        → (more : List ℕ) × BeginsWithElements allowed count (bytes ++ more)
    some_follow count fewer positive =
        let o = lacks.some positive in
        let first = first_of allowed law 1 o.1.item o.1.is_item in
        let element = element_of_one 1 first.elements first.marks refl first.run in
        let own : IsOwn allowed first.elements first.marks = λ on.
        (spelled_alone first.elements first.marks (first.spelled on), (first.spelled on).meant) in
        let s = split first.elements o.0 (first.rest ++ o.1.rest) first.marks element own
        (o.1.is ∙ ap (λ (z : List ℕ). z ++ o.1.rest) first.is
        ∙ append_assoc first.elements first.rest o.1.rest) in
        let one = add allowed whole front.elements first.elements first.marks whole_elements element own in
        let all = add_zeros allowed (suc whole) (count - suc whole) count (front.elements ++ first.elements)
        (omega (arith, fewer)) one in
        let bytes_are : bytes ++ (s.next ++ all.0) ≡ (front.elements ++ first.elements) ++ all.0 =
        sym (append_assoc bytes s.next all.0) ∙ ap (λ (z : List ℕ). z ++ all.0)
        (ap (λ (z : List ℕ). z ++ s.next) front.is ∙ append_assoc front.elements front.rest s.next
        ∙ ap (λ (z : List ℕ). front.elements ++ z) (sym s.word_is)) in (
          s.next ++ all.0,
          record {
            elements = (front.elements ++ first.elements) ++ all.0;
            marks = all.1.marks;
            rest = [];
            run = all.1.run;
            is = bytes_are ∙ sym (append-nil ((front.elements ++ first.elements) ++ all.0));
            spelled = all.1.spelled;
          },
        )

    elements_lack_behind : (count at : ℕ) → whole < count → drop at bytes ≡ front.rest
        → ElementsLack allowed count bytes at due
    elements_lack_behind count at fewer behind = record {
      least = λ more run. least count more fewer run;
      some = some_follow count fewer;
      checker = λ positive. subst (λ (z : List ℕ). CheckerLacks allowed 1 z due) (sym behind) (lacks.checker positive);
    }

-- The bytes after the whole elements are those from their offset on.
rest_behind : (allowed : Spelling) (n at : ℕ) (bytes : List ℕ) (front : BeginsWithElements allowed n bytes)
    → at ≡ length front.elements → drop at bytes ≡ front.rest
rest_behind allowed n at bytes front ends =
    ap (λ (z : ℕ). drop z bytes) ends ∙ ap (drop (length front.elements)) front.is
    ∙ drop-append_seam front.elements front.rest

-- A slice up to the end is all bytes from its offset on.
lent_is : (at : ℕ) (bytes : List ℕ) → take (length bytes - at) (drop at bytes) ≡ drop at bytes
lent_is at bytes = take_all (length bytes - at) (drop at bytes) (omega (arith, length-drop at bytes))

-- If no more whole elements come first, no item follows them.
pub none_in_front : (allowed : Spelling) → StrictLaw allowed → (n at : ℕ) (bytes : List ℕ)
    (front : BeginsWithElements allowed n bytes) → at ≡ length front.elements
    → (BeginsWithElements allowed (suc n) bytes → ⊥)
    → BeginsWithItem allowed 1 (take (length bytes - at) (drop at bytes)) → ⊥
none_in_front allowed law n at bytes front ends cut item =
    no_item allowed law n bytes front cut 1
    (subst (BeginsWithItem allowed 1) (lent_is at bytes ∙ rest_behind allowed n at bytes front ends) item)

-- The elements lack the bytes that an item after the whole elements lacks.
pub elements_lack : (allowed : Spelling) → StrictLaw allowed → (n count at due : ℕ) (bytes : List ℕ)
    (front : BeginsWithElements allowed n bytes) → at ≡ length front.elements
    → (BeginsWithElements allowed (suc n) bytes → ⊥)
    → n < count → ItemLacks allowed 1 (take (length bytes - at) (drop at bytes)) due
    → ElementsLack allowed count bytes at due
elements_lack allowed law n count at due bytes front ends cut fewer lacks =
    let behind = rest_behind allowed n at bytes front ends in
    elements_lack_behind allowed law n bytes front cut due
    (subst (λ (z : List ℕ). ItemLacks allowed 1 z due) (lent_is at bytes ∙ behind) lacks) count at fewer behind
