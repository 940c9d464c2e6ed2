-- The items of an array and the pairs of a map, one by one.
use Rattle.std.proofs.Common.{◌≡◌, ℕ, zero, suc, ◌-◌, ◌*◌, ◌<◌, false, List, [], ◌∷◌, ◌++◌, length, take, refl}
use Rattle.std.proofs.Common.{Option, Some, None, IfSome, ◌≤◌, sym, ◌∙◌, ap, subst, arith}
use Rattle.std.proofs.Common.{length-append, true}
use Rattle.std.proofs.lemmas.Grind.{not_there}
use Rattle.std.proofs.Math.Logic.{∥∥₁_map, ∥∥₁_elim}
use Rattle.std.proofs.Math.Seq.{take-append_seam}
use Rattle.std.proofs.Props.{props}
use Rattle.ciborium_ll_grammar.specs.declared.spelling.Spelling.TheVariants.{Any}
use Rattle.ciborium_ll_grammar.specs.declared.hdr.Header.TheVariants as h
use Rattle.ciborium_ll_grammar.specs.Title.{IsTitle}
use Rattle.ciborium_ll_grammar.specs.Items.{Completes, array, pairs, open_array, open_pairs}
use Rattle.ciborium_ll_grammar.specs.Items.{AreItems, no_items, more_items, IsItem}
use Rattle.ciborium_ll_grammar.proofs.ItemJoins.{FirstOf, first_of, others_of, some_joined}
use Rattle.ciborium_ll_grammar.proofs.TitleLaws.{one_title}
use Rattle.ciborium_ll_text.proofs.Lists.{same_front}
use Rattle.cbor_skip.specs.ItemFaults.{BeginsWithItem}
use Rattle.cbor_view.specs.Views.{HasItems, HasPairs, closed, one_less}
use Rattle.cbor_view.specs.Nexts.{CountsDown}

-- ---- the first item

-- The first of some items, and the others.
abbrev pub FirstItem : ℕ → ℕ → List ℕ → Type 0
FirstItem e n w = FirstOf Any e (n - 1) w

at_least_one : (e n : ℕ) (w : List ℕ) → AreItems Any e n w → 0 < n → AreItems Any e (suc (n - 1)) w
at_least_one e n w i l = let is : n ≡ suc (n - 1) = omega arith in subst (λ (d : ℕ). AreItems Any e d w) is i

pub first_item : (e n : ℕ) (w : List ℕ) → AreItems Any e n w → 0 < n → FirstItem e n w
first_item e n w i l = first_of Any e (n - 1) w (at_least_one e n w i l)

pub some_items : (e n : ℕ) (w : List ℕ) → AreItems Any e n w → 0 < length w → 0 < n
some_items e n w no_items l = absurd (omega arith)
some_items e n w (more_items p k c i) l = omega arith

pub items_some : (e n : ℕ) (w : List ℕ) → AreItems Any e n w → 0 < n → 0 < length w
items_some e n w i l = some_joined Any e n w i l

pub in_front : (e n : ℕ) (w : List ℕ) → AreItems Any e n w → 0 < n → BeginsWithItem Any e w
in_front e n w i l =
    let f = first_item e n w i l in record { item = f.first; rest = f.others; is_item = f.is_item; is = f.whole }

-- The bytes after the first item are the other items.
pub others_left : (e n : ℕ) (w item rest : List ℕ) → AreItems Any e n w → 0 < n → IsItem Any e item
    → w ≡ item ++ rest → AreItems Any e (n - 1) rest
others_left e n w item rest i l is z =
    others_of Any Any e e (n - 1) w item rest (at_least_one e n w i l) is z

-- An item has at least one byte.
pub item_takes : (e : ℕ) (w item rest : List ℕ) → IsItem Any e item → w ≡ item ++ rest → length rest < length w
item_takes e w item rest is z =
    omega (arith, items_some e (suc zero) item is (omega arith), ap length z, length-append item rest)

pub counts_down : (due : Option ℕ) → IfSome due (λ n. 0 < n) → CountsDown due (one_less due)
counts_down (Some n) l = omega arith
counts_down None l = tt

-- A pair has at least one byte.
pub pair_takes : (e : ℕ) (w key value rest last : List ℕ) → IsItem Any e key → w ≡ key ++ rest
    → IsItem Any e value → rest ≡ value ++ last → length last < length w
pair_takes e w key value rest last is z iv y =
    omega (arith, item_takes e w key rest is z, item_takes e rest value last iv y)

pub false_true : false ≡ true → ⊥
false_true z = cc

-- ---- the items of an array

items_there_go : (e : ℕ) (due : Option ℕ) (w : List ℕ) → HasItems e due w → 0 < length w → BeginsWithItem Any e w
items_there_go e (Some n) w i l = in_front e n w i (some_items e n w i l)
items_there_go e None w i l = in_front e i.0 w i.1 (some_items e i.0 w i.1 l)

pub items_there : (e : ℕ) (due : Option ℕ) (w : List ℕ) → ∥ HasItems e due w ∥₁ → 0 < length w
    → (BeginsWithItem Any e w → ⊥) → ⊥
items_there e due w t l f = not_there t (λ i. f (items_there_go e due w i l))

pub items_due : (e : ℕ) (due : Option ℕ) (w : List ℕ) → ∥ HasItems e due w ∥₁ → 0 < length w
    → IfSome due (λ n. 0 < n)
items_due e None w t l = tt
items_due e (Some zero) w t l = absurd (not_there t (λ i. absurd_zero (some_items e zero w i l)))
  where
    absurd_zero : 0 < zero → ⊥
    absurd_zero z = omega arith
items_due e (Some (suc n)) w t l = omega arith

pub items_done : (e : ℕ) (due : Option ℕ) (w : List ℕ) → ∥ HasItems e due w ∥₁ → length w ≡ 0
    → IfSome due (λ n. n ≡ 0)
items_done e None w t z = tt
items_done e (Some zero) w t z = refl
items_done e (Some (suc n)) w t z =
    absurd (not_there t (λ i. none (items_some e (suc n) w i (omega arith))))
  where
    none : 0 < length w → ⊥
    none l = omega arith

items_left_go : (e : ℕ) (due : Option ℕ) (w item rest : List ℕ) → HasItems e due w → 0 < length w
    → IsItem Any e item → w ≡ item ++ rest → HasItems e (one_less due) rest
items_left_go e (Some n) w item rest i l is z = others_left e n w item rest i (some_items e n w i l) is z
items_left_go e None w item rest i l is z =
    (i.0 - 1, others_left e i.0 w item rest i.1 (some_items e i.0 w i.1 l) is z)

pub items_left : (e : ℕ) (due : Option ℕ) (w item rest : List ℕ) → ∥ HasItems e due w ∥₁ → 0 < length w
    → IsItem Any e item → w ≡ item ++ rest → ∥ HasItems e (one_less due) rest ∥₁
items_left e due w item rest t l is z = ∥∥₁_map t (λ i. items_left_go e due w item rest i l is z)

-- ---- the pairs of a map

-- The first of some pairs, and the others.
pub record FirstPair (e n : ℕ) (w : List ℕ) : Type 0 where
  pub key : List ℕ
  pub value : List ℕ
  pub others : List ℕ
  pub is_key : IsItem Any e key
  pub is_value : IsItem Any e value
  pub are : AreItems Any e (2 * (n - 1)) others
  pub whole : w ≡ key ++ (value ++ others)

pub first_pair : (e n : ℕ) (w : List ℕ) → AreItems Any e (2 * n) w → 0 < n → FirstPair e n w
first_pair e n w i l =
    let f = first_item e (2 * n) w i (omega arith) in
    let g = first_item e (2 * n - 1) f.others f.are (omega arith) in
    let less : 2 * n - 1 - 1 ≡ 2 * (n - 1) = omega arith in
    record {
      key = f.first;
      value = g.first;
      others = g.others;
      is_key = f.is_item;
      is_value = g.is_item;
      are = subst (λ (d : ℕ). AreItems Any e d g.others) less g.are;
      whole = f.whole ∙ ap (λ (v : List ℕ). f.first ++ v) g.whole;
    }

pub some_pairs : (e n : ℕ) (w : List ℕ) → AreItems Any e (2 * n) w → 0 < length w → 0 < n
some_pairs e n w i l = let some = some_items e (2 * n) w i l in omega arith

-- The number of the pairs, with the first pair.
pub record SomePairs (e : ℕ) (due : Option ℕ) (w : List ℕ) : Type 0 where
  pub count : ℕ
  pub some : 0 < count
  pub are : AreItems Any e (2 * count) w
  pub left : (v : List ℕ) → AreItems Any e (2 * (count - 1)) v → HasPairs e (one_less due) v

pub pairs_there : (e : ℕ) (due : Option ℕ) (w : List ℕ) → HasPairs e due w → 0 < length w → SomePairs e due w
pairs_there e (Some n) w i l =
    record { count = n; some = some_pairs e n w i l; are = i; left = λ v is. is }
pairs_there e None w i l =
    record { count = i.0; some = some_pairs e i.0 w i.1 l; are = i.1; left = λ v is. (i.0 - 1, is) }

pub key_there : (e : ℕ) (due : Option ℕ) (w : List ℕ) → ∥ HasPairs e due w ∥₁ → 0 < length w
    → (BeginsWithItem Any e w → ⊥) → ⊥
key_there e due w t l f = not_there t (λ i.
    let s = pairs_there e due w i l in
    f (in_front e (2 * s.count) w s.are (omega (arith, s.some))))

pub value_there : (e : ℕ) (due : Option ℕ) (w key rest : List ℕ) → ∥ HasPairs e due w ∥₁ → 0 < length w
    → IsItem Any e key → w ≡ key ++ rest → (BeginsWithItem Any e rest → ⊥) → ⊥
value_there e due w key rest t l is z f = not_there t (λ i.
    let s = pairs_there e due w i l in
    let are = others_left e (2 * s.count) w key rest s.are (omega (arith, s.some)) is z in
    f (in_front e (2 * s.count - 1) rest are (omega (arith, s.some))))

pairs_left_go : (e : ℕ) (due : Option ℕ) (w key value rest last : List ℕ) → HasPairs e due w → 0 < length w
    → IsItem Any e key → w ≡ key ++ rest → IsItem Any e value → rest ≡ value ++ last
    → HasPairs e (one_less due) last
pairs_left_go e due w key value rest last i l is z iv y =
    let s = pairs_there e due w i l in
    let are = others_left e (2 * s.count) w key rest s.are (omega (arith, s.some)) is z in
    let left = others_left e (2 * s.count - 1) rest value last are (omega (arith, s.some)) iv y in
    let less : 2 * s.count - 1 - 1 ≡ 2 * (s.count - 1) = omega (arith, s.some) in
    s.left last (subst (λ (d : ℕ). AreItems Any e d last) less left)

pub pairs_left : (e : ℕ) (due : Option ℕ) (w key value rest last : List ℕ) → ∥ HasPairs e due w ∥₁ → 0 < length w
    → IsItem Any e key → w ≡ key ++ rest → IsItem Any e value → rest ≡ value ++ last
    → ∥ HasPairs e (one_less due) last ∥₁
pairs_left e due w key value rest last t l is z iv y =
    ∥∥₁_map t (λ i. pairs_left_go e due w key value rest last i l is z iv y)

pub pairs_due : (e : ℕ) (due : Option ℕ) (w : List ℕ) → ∥ HasPairs e due w ∥₁ → 0 < length w
    → IfSome due (λ n. 0 < n)
pairs_due e None w t l = tt
pairs_due e (Some zero) w t l = absurd (not_there t (λ i. absurd_zero (some_pairs e zero w i l)))
  where
    absurd_zero : 0 < zero → ⊥
    absurd_zero z = omega arith
pairs_due e (Some (suc n)) w t l = omega arith

pub pairs_done : (e : ℕ) (due : Option ℕ) (w : List ℕ) → ∥ HasPairs e due w ∥₁ → length w ≡ 0
    → IfSome due (λ n. n ≡ 0)
pairs_done e None w t z = tt
pairs_done e (Some zero) w t z = refl
pairs_done e (Some (suc n)) w t z =
    absurd (not_there t (λ i. none (items_some e (2 * suc n) w i (omega arith))))
  where
    none : 0 < length w → ⊥
    none l = omega arith

-- ---- the contents of an array and of a map

-- The bytes before the break that ends an indefinite form are all bytes but the last.
before_break : (items w : List ℕ) → w ≡ items ++ 0xff ∷ [] → w ≡ take (length w - 1) w ++ 0xff ∷ []
before_break items w z =
    let l : length w - 1 ≡ length items = omega (arith, ap length z, length-append items (0xff ∷ [])) in
    let front : take (length w - 1) w ≡ items =
    ap (λ (n : ℕ). take n w) l ∙ ap (λ (v : List ℕ). take (length items) v) z
    ∙ take-append_seam items (0xff ∷ []) in
    z ∙ ap (λ (v : List ℕ). v ++ 0xff ∷ []) (sym front)

pub same_before : (items rest : List ℕ) → items ++ 0xff ∷ [] ≡ rest ++ 0xff ∷ [] → items ≡ rest
same_before items rest z =
    (same_front items rest (0xff ∷ []) (0xff ∷ [])
    (omega (arith, ap length z, length-append items (0xff ∷ []), length-append rest (0xff ∷ []))) z).0

-- Without the break of an indefinite form, the items are the same.
same_closed : (due : Option ℕ) (items rest : List ℕ) → closed due items ≡ closed due rest → items ≡ rest
same_closed (Some n) items rest z = z
same_closed None items rest z = same_before items rest z

-- With the break of an indefinite form, items are no shorter.
pub closed_longer : (due : Option ℕ) (items : List ℕ) → length items ≤ length (closed due items)
closed_longer (Some n) items = omega arith
closed_longer None items = omega (arith, length-append items (0xff ∷ []))

-- The same bytes are one map, with one title, one count and one sequence of pairs.
pub one_map : (t t' items rest : List ℕ) (count due : Option ℕ) → IsTitle t (h.Map count) → IsTitle t' (h.Map due)
    → t ++ closed count items ≡ t' ++ closed due rest → (t ≡ t') × (count ≡ due) × (items ≡ rest)
one_map t t' items rest count due p p' z =
    let one = one_title t t' (closed count items) (closed due rest) (h.Map count) (h.Map due) p p' z in
    let same = one.1 in
    let counted : count ≡ due = cc in
    (one.0, counted, same_closed due items rest (rw counted at one.2))

array_flat : (due : Option ℕ) (w : List ℕ) → Completes Any zero (h.Array due) w → ⊥
array_flat due w c = elim c [ ]

map_flat : (due : Option ℕ) (w : List ℕ) → Completes Any zero (h.Map due) w → ⊥
map_flat due w c = elim c [ ]

array_open : (e : ℕ) (w : List ℕ) → Completes Any e (h.Array None) w → w ≡ take (length w - 1) w ++ 0xff ∷ []
array_open e w (open_array {items = a} i) = before_break a (a ++ 0xff ∷ []) refl

map_open : (e : ℕ) (w : List ℕ) → Completes Any e (h.Map None) w → w ≡ take (length w - 1) w ++ 0xff ∷ []
map_open e w (open_pairs {items = a} n i) = before_break a (a ++ 0xff ∷ []) refl

pub array_break : (e : ℕ) (due : Option ℕ) (w : List ℕ) → ∥ Completes Any e (h.Array due) w ∥₁ → due ≡ None
    → w ≡ take (length w - 1) w ++ 0xff ∷ []
array_break e due w t z =
    ∥∥₁_elim (subst (λ (d : Option ℕ). ∥ Completes Any e (h.Array d) w ∥₁) z t) (hlevel props) (array_open e w)

pub map_break : (e : ℕ) (due : Option ℕ) (w : List ℕ) → ∥ Completes Any e (h.Map due) w ∥₁ → due ≡ None
    → w ≡ take (length w - 1) w ++ 0xff ∷ []
map_break e due w t z =
    ∥∥₁_elim (subst (λ (d : Option ℕ). ∥ Completes Any e (h.Map d) w ∥₁) z t) (hlevel props) (map_open e w)

pub array_level : (e : ℕ) (due : Option ℕ) (w : List ℕ) → ∥ Completes Any e (h.Array due) w ∥₁ → 0 < e
array_level zero due w t = absurd (not_there t (array_flat due w))
array_level (suc e) due w t = omega arith

pub map_level : (e : ℕ) (due : Option ℕ) (w : List ℕ) → ∥ Completes Any e (h.Map due) w ∥₁ → 0 < e
map_level zero due w t = absurd (not_there t (map_flat due w))
map_level (suc e) due w t = omega arith

of_array : (e : ℕ) (due : Option ℕ) (w rest : List ℕ) → Completes Any (suc e) (h.Array due) w
    → w ≡ closed due rest → HasItems e due rest
of_array e (Some n) w rest (array i) z = subst (λ (v : List ℕ). AreItems Any e n v) z i
of_array e None w rest (open_array {count = n} {items = a} i) z =
    (n, subst (λ (v : List ℕ). AreItems Any e n v) (same_before a rest z) i)

of_map : (e : ℕ) (due : Option ℕ) (w rest : List ℕ) → Completes Any (suc e) (h.Map due) w
    → w ≡ closed due rest → HasPairs e due rest
of_map e (Some n) w rest (pairs i) z = subst (λ (v : List ℕ). AreItems Any e (2 * n) v) z i
of_map e None w rest (open_pairs {items = a} n i) z =
    (n, subst (λ (v : List ℕ). AreItems Any e (2 * n) v) (same_before a rest z) i)

pub array_items : (e : ℕ) (due : Option ℕ) (w rest : List ℕ) → ∥ Completes Any e (h.Array due) w ∥₁
    → w ≡ closed due rest → ∥ HasItems (e - 1) due rest ∥₁
array_items e due w rest t z =
    let l = array_level e due w t in
    let s : e ≡ suc (e - 1) = omega arith in
    ∥∥₁_map (subst (λ (d : ℕ). ∥ Completes Any d (h.Array due) w ∥₁) s t)
    (λ c. of_array (e - 1) due w rest c z)

pub map_pairs : (e : ℕ) (due : Option ℕ) (w rest : List ℕ) → ∥ Completes Any e (h.Map due) w ∥₁
    → w ≡ closed due rest → ∥ HasPairs (e - 1) due rest ∥₁
map_pairs e due w rest t z =
    let l = map_level e due w t in
    let s : e ≡ suc (e - 1) = omega arith in
    ∥∥₁_map (subst (λ (d : ℕ). ∥ Completes Any d (h.Map due) w ∥₁) s t)
    (λ c. of_map (e - 1) due w rest c z)
