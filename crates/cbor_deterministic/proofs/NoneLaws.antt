-- Bytes that fail begin with no item, and the place is within them or at their end.
use Rattle.cbor_deterministic.specs.Orders.{Precedes}
use Rattle.ciborium_ll_grammar.specs.declared.hdr.Header.{Header}
use Rattle.cbor_deterministic.specs.declared.Order.{Order}
use Rattle.std.proofs.Common.{◌≡◌, ℕ, ◌≤◌, List, ◌++◌, length, take}
use Rattle.std.proofs.Common.{sym, ◌∙◌, ap, subst, append_assoc, arith, length-append}
use Rattle.std.proofs.Math.Seq.{take-append_seam}
use Rattle.ciborium_ll_text.specs.Text.{IsCharacters}
use Rattle.cbor_deterministic.specs.declared.Why.{Why}
use Rattle.cbor_deterministic.specs.Deterministic.{Completes, positive, negative, float, simple, byte_string}
use Rattle.cbor_deterministic.specs.Deterministic.{text_string, tag, array, pairs}
use Rattle.cbor_deterministic.specs.Deterministic.{IsDeterministic, item, AreDeterministic, more_items, AreSortedPairs}
use Rattle.cbor_deterministic.specs.Deterministic.{more_pairs}
use Rattle.cbor_deterministic.specs.Refusals.{FailsOrder, duplicate, out_of_order}
use Rattle.cbor_deterministic.specs.Refusals.{FailsOrder, duplicate, out_of_order}
use Rattle.cbor_deterministic.specs.Refusals.{FailsItem, at_title, after_title, FailsWithin, cut_bytes, cut_text}
use Rattle.cbor_deterministic.specs.Refusals.{no_text, too_deep}
use Rattle.cbor_deterministic.specs.Refusals.{in_tag, in_array, in_map, FailsItems, in_first, after_first, FailsPairs}
use Rattle.cbor_deterministic.specs.Refusals.{in_key}
use Rattle.cbor_deterministic.specs.Refusals.{at_key, in_value, after_pair}
use Rattle.cbor_deterministic.proofs.TitleRuns.{one_preferred, title_none}
use Rattle.cbor_deterministic.proofs.ItemLaws.{one_item}
use Rattle.cbor_deterministic.proofs.OrderLaws.{not_itself, not_both}

module _ {ord : Order} where
  pub order_none : (a k : List ℕ) (why : Why) → FailsOrder ord a k why → Precedes ord a k → ⊥
  order_none a k why duplicate p = not_itself ord k p
  order_none a k why (out_of_order q) p = not_both ord a k p q

-- ---- items

module _ {ord : Order} where
  mutual
    pub item_none : (e : ℕ) (bytes : List ℕ) (why : Why) (left : ℕ) → FailsItem ord e bytes why left → (w v : List ℕ)
        → IsDeterministic ord e w → bytes ≡ w ++ v → ⊥
    item_none e bytes why left (at_title s) w v (item {title = t} {rest = r} {header = x} p c) z =
        title_none bytes why s t (r ++ v) x p (z ∙ append_assoc t r v)
    item_none e bytes why left (after_title {title = u} {rest = o} {header = y} q s) w v
        (item {title = t} {rest = r} {header = x} p c) z =
        let one = one_preferred u t o (r ++ v) y x q p (z ∙ append_assoc t r v) in
        within_none e y _ o why left s r v (subst (λ (k : Header). Completes ord e k r) (sym one.1) c) one.2

    within_none : (e : ℕ) (x : Header) (at : ℕ) (bytes : List ℕ) (why : Why) (left : ℕ)
        → FailsWithin ord e x at bytes why left → (w v : List ℕ) → Completes ord e x w → bytes ≡ w ++ v → ⊥
    within_none e x at bytes why left (cut_bytes s) w v (byte_string l) z =
        omega (arith, ap (length {A = ℕ}) z, length-append w v)
    within_none e x at bytes why left (cut_text s) w v (text_string l k) z =
        omega (arith, ap (length {A = ℕ}) z, length-append w v)
    within_none e x at bytes why left (no_text {len = n} i s) w v (text_string l k) z =
        s (subst (λ (b : List ℕ). IsCharacters b) (sym (front n l)) k)
      where
        front : (n : ℕ) → length w ≡ n → take n bytes ≡ w
        front n l = ap (λ (b : List ℕ). take n b) z ∙ ap (λ (j : ℕ). take j (w ++ v)) (sym l) ∙ take-append_seam w v
    within_none e x at bytes why left (in_tag s) w v (tag i) z = item_none _ bytes why left s w v i z
    within_none e x at bytes why left (in_array s) w v (array i) z = items_none _ _ bytes why left s w v i z
    within_none e x at bytes why left (in_map s) w v (pairs i) z = pairs_none _ _ _ bytes why left s w v i z
    within_none e x at bytes why left (too_deep n) w v positive z = n
    within_none e x at bytes why left (too_deep n) w v negative z = n
    within_none e x at bytes why left (too_deep n) w v simple z = n
    within_none e x at bytes why left (too_deep n) w v float z = n
    within_none e x at bytes why left (too_deep n) w v (byte_string l) z = n
    within_none e x at bytes why left (too_deep n) w v (text_string l k) z = n

    items_none : (e n : ℕ) (bytes : List ℕ) (why : Why) (left : ℕ) → FailsItems ord e n bytes why left → (w v : List ℕ)
        → AreDeterministic ord e n w → bytes ≡ w ++ v → ⊥
    items_none e n bytes why left (in_first s) w v (more_items {first = x} {others = y} i is) z =
        item_none e bytes why left s x (y ++ v) i (z ∙ append_assoc x y v)
    items_none e n bytes why left (after_first {first = f} {bytes = b} q s) w v
        (more_items {first = x} {others = y} i is) z =
        let one = one_item e f q e x b (y ++ v) i (z ∙ append_assoc x y v) in
        items_none e _ b why left s y v is one.1

    pairs_none : (e n : ℕ) (a bytes : List ℕ) (why : Why) (left : ℕ) → FailsPairs ord e n a bytes why left
        → (w v : List ℕ) → AreSortedPairs ord e n a w → bytes ≡ w ++ v → ⊥
    pairs_none e n a bytes why left (in_key s) w v (more_pairs {key = x} {value = y} {others = r} i o u is) z =
        item_none e bytes why left s x ((y ++ r) ++ v) i (z ∙ append_assoc x (y ++ r) v)
    pairs_none e n a bytes why left (at_key {key = k} b q s) w v
        (more_pairs {key = x} {value = y} {others = r} i o u is) z =
        let one = one_item e k q e x b ((y ++ r) ++ v) i (z ∙ append_assoc x (y ++ r) v) in
        order_none a k why s (subst (λ (j : List ℕ). Precedes ord a j) (sym one.0) o)
    pairs_none e n a bytes why left (in_value {key = k} {bytes = b} q p s) w v
        (more_pairs {key = x} {value = y} {others = r} i o u is) z =
        let one = one_item e k q e x b ((y ++ r) ++ v) i (z ∙ append_assoc x (y ++ r) v) in
        item_none e b why left s y (r ++ v) u (one.1 ∙ append_assoc y r v)
    pairs_none e n a bytes why left (after_pair {count = c} {key = k} {value = l} {bytes = b} q p j s) w v
        (more_pairs {key = x} {value = y} {others = r} i o u is) z =
        let one = one_item e k q e x (l ++ b) ((y ++ r) ++ v) i (z ∙ append_assoc x (y ++ r) v) in
        let two = one_item e l j e y b (r ++ v) u (one.1 ∙ append_assoc y r v) in
        pairs_none e c k b why left s r v (subst (λ (m : List ℕ). AreSortedPairs ord e c m r) (sym one.0) is) two.1

-- ---- the place

module _ {ord : Order} where
  mutual
    pub item_place : (e : ℕ) (bytes : List ℕ) (why : Why) (left : ℕ) → FailsItem ord e bytes why left
        → left ≤ length bytes
    item_place e bytes why left (at_title s) = omega arith
    item_place e bytes why left (after_title {title = t} {rest = r} {header = x} q s) =
        within_place e x (length (t ++ r)) r why left s (omega (arith, length-append t r))

    within_place : (e : ℕ) (x : Header) (at : ℕ) (bytes : List ℕ) (why : Why) (left : ℕ)
        → FailsWithin ord e x at bytes why left → length bytes ≤ at → left ≤ at
    within_place e x at bytes why left (cut_bytes s) l = omega arith
    within_place e x at bytes why left (cut_text s) l = omega arith
    within_place e x at bytes why left (no_text i s) l = omega arith
    within_place e x at bytes why left (too_deep n) l = omega arith
    within_place e x at bytes why left (in_tag s) l = let p = item_place _ bytes why left s in omega arith
    within_place e x at bytes why left (in_array s) l = let p = items_place _ _ bytes why left s in omega arith
    within_place e x at bytes why left (in_map s) l = let p = pairs_place _ _ _ bytes why left s in omega arith

    items_place : (e n : ℕ) (bytes : List ℕ) (why : Why) (left : ℕ) → FailsItems ord e n bytes why left
        → left ≤ length bytes
    items_place e n bytes why left (in_first s) = item_place e bytes why left s
    items_place e n bytes why left (after_first {first = f} {bytes = b} q s) =
        let p = items_place e _ b why left s in omega (arith, length-append f b)

    pairs_place : (e n : ℕ) (a bytes : List ℕ) (why : Why) (left : ℕ) → FailsPairs ord e n a bytes why left
        → left ≤ length bytes
    pairs_place e n a bytes why left (in_key s) = item_place e bytes why left s
    pairs_place e n a bytes why left (at_key b q s) = omega arith
    pairs_place e n a bytes why left (in_value {key = k} {bytes = b} q p s) =
        let o = item_place e b why left s in omega (arith, length-append k b)
    pairs_place e n a bytes why left (after_pair {key = k} {value = l} {bytes = b} q p j s) =
        let o = pairs_place e _ k b why left s in omega (arith, length-append k (l ++ b), length-append l b)
