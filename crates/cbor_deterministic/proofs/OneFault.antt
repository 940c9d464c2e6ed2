-- Bytes fail at only one place, for one reason.
use Rattle.cbor_deterministic.specs.Orders.{Precedes}
use Rattle.ciborium_ll_grammar.specs.declared.hdr.Header.{Header}
use Rattle.cbor_deterministic.specs.declared.Order.{Order}
use Rattle.std.proofs.Common.{◌≡◌, ℕ, List, ◌++◌, length}
use Rattle.std.proofs.Common.{refl, sym, ap, subst, arith}
use Rattle.cbor_deterministic.specs.declared.Why.{Why}
use Rattle.cbor_deterministic.specs.Refusals.{FailsOrder, duplicate, out_of_order, FailsItem, at_title, after_title}
use Rattle.cbor_deterministic.specs.Refusals.{FailsWithin}
use Rattle.cbor_deterministic.specs.Refusals.{cut_bytes, cut_text, no_text, too_deep, in_tag, in_array, in_map}
use Rattle.cbor_deterministic.specs.Refusals.{FailsItems}
use Rattle.cbor_deterministic.specs.Refusals.{in_first, after_first, FailsPairs, in_key, at_key, in_value, after_pair}
use Rattle.cbor_deterministic.specs.Refusals.{HasRefusal}
use Rattle.cbor_deterministic.proofs.TitleRuns.{one_preferred, title_none, title_once}
use Rattle.cbor_deterministic.proofs.ItemLaws.{one_item}
use Rattle.cbor_deterministic.proofs.OrderLaws.{not_itself}
use Rattle.cbor_deterministic.proofs.NoneLaws.{order_none, item_none}

module _ {ord : Order} where
  order_once : (a k k' : List ℕ) (w w' : Why) → FailsOrder ord a k w → FailsOrder ord a k' w' → k ≡ k' → w ≡ w'
  order_once a k k' w w' duplicate duplicate z = refl
  order_once a k k' w w' duplicate (out_of_order p) z =
      absurd (not_itself ord k (subst (λ (j : List ℕ). Precedes ord j k) (sym z) p))
  order_once a k k' w w' (out_of_order p) duplicate z =
      absurd (not_itself ord k' (subst (λ (j : List ℕ). Precedes ord j k') z p))
  order_once a k k' w w' (out_of_order p) (out_of_order q) z = refl

-- ---- items

before : (ord : Order) (a a' k k' : List ℕ) → a ≡ a' → k ≡ k' → Precedes ord a' k' → Precedes ord a k
before ord a a' k k' y q o =
    subst (λ (j : List ℕ). Precedes ord j k) (sym y) (subst (λ (j : List ℕ). Precedes ord a' j) (sym q) o)

abbrev pub OnePlace : Why → Why → ℕ → ℕ → Type 0
OnePlace w w' l l' = (w ≡ w') × (l ≡ l')

module _ {ord : Order} where
  mutual
    pub one_refusal : (e : ℕ) (b : List ℕ) (w : Why) (l : ℕ) → FailsItem ord e b w l → (b' : List ℕ) (w' : Why) (l' : ℕ)
        → FailsItem ord e b' w' l' → b ≡ b' → OnePlace w w' l l'
    one_refusal e b w l (at_title s) b' w' l' (at_title s') z = (title_once b b' w w' s s' z, ap (length {A = ℕ}) z)
    one_refusal e b w l (at_title s) b' w' l' (after_title {title = t} {rest = r} {header = x} p q) z =
        absurd (title_none b w s t r x p z)
    one_refusal e b w l (after_title {title = t} {rest = r} {header = x} p q) b' w' l' (at_title s) z =
        absurd (title_none b' w' s t r x p (sym z))
    one_refusal e b w l (after_title {title = t} {rest = r} {header = x} p q) b' w' l'
        (after_title {title = t'} {rest = r'} {header = x'} p' q') z =
        let o = one_preferred t t' r r' x x' p p' z in
        within_once e x _ r w l q _ r' w' l' (subst (λ (y : Header). FailsWithin ord e y (length (t' ++ r')) r' w' l')
        (sym o.1) q')
        (ap (length {A = ℕ}) z) o.2

    within_once : (e : ℕ) (x : Header) (at : ℕ) (b : List ℕ) (w : Why) (l : ℕ) → FailsWithin ord e x at b w l
        → (at' : ℕ) (b' : List ℕ) (w' : Why) (l' : ℕ) → FailsWithin ord e x at' b' w' l' → at ≡ at' → b ≡ b'
        → OnePlace w w' l l'
    within_once e x at b w l (cut_bytes c) at' b' w' l' (cut_bytes c') y z = (refl, refl)
    within_once e x at b w l (cut_text c) at' b' w' l' (cut_text c') y z = (refl, refl)
    within_once e x at b w l (cut_text c) at' b' w' l' (no_text i s) y z =
        absurd (omega (arith, ap (length {A = ℕ}) z))
    within_once e x at b w l (no_text i s) at' b' w' l' (cut_text c) y z =
        absurd (omega (arith, ap (length {A = ℕ}) z))
    within_once e x at b w l (no_text i s) at' b' w' l' (no_text i' s') y z = (refl, y)
    within_once e x at b w l (too_deep n) at' b' w' l' (too_deep n') y z = (refl, y)
    within_once e x at b w l (too_deep n) at' b' w' l' (cut_bytes c) y z = absurd n
    within_once e x at b w l (too_deep n) at' b' w' l' (cut_text c) y z = absurd n
    within_once e x at b w l (too_deep n) at' b' w' l' (no_text i s) y z = absurd n
    within_once e x at b w l (cut_bytes c) at' b' w' l' (too_deep n) y z = absurd n
    within_once e x at b w l (cut_text c) at' b' w' l' (too_deep n) y z = absurd n
    within_once e x at b w l (no_text i s) at' b' w' l' (too_deep n) y z = absurd n
    within_once e x at b w l (in_tag s) at' b' w' l' (in_tag s') y z = one_refusal _ b w l s b' w' l' s' z
    within_once e x at b w l (in_array s) at' b' w' l' (in_array s') y z = items_once _ _ b w l s b' w' l' s' z
    within_once e x at b w l (in_map s) at' b' w' l' (in_map s') y z = pairs_once _ _ _ b w l s _ b' w' l' s' refl z

    items_once : (e n : ℕ) (b : List ℕ) (w : Why) (l : ℕ) → FailsItems ord e n b w l → (b' : List ℕ) (w' : Why) (l' : ℕ)
        → FailsItems ord e n b' w' l' → b ≡ b' → OnePlace w w' l l'
    items_once e n b w l (in_first s) b' w' l' (in_first s') z = one_refusal e b w l s b' w' l' s' z
    items_once e n b w l (in_first s) b' w' l' (after_first {first = f} {bytes = r} i s') z =
        absurd (item_none e b w l s f r i z)
    items_once e n b w l (after_first {first = f} {bytes = r} i s') b' w' l' (in_first s) z =
        absurd (item_none e b' w' l' s f r i (sym z))
    items_once e n b w l (after_first {first = f} {bytes = r} i s) b' w' l'
        (after_first {first = f'} {bytes = r'} i' s') z =
        let o = one_item e f i e f' r r' i' z in
        items_once e _ r w l s r' w' l' s' o.1

    pairs_once : (e n : ℕ) (a b : List ℕ) (w : Why) (l : ℕ) → FailsPairs ord e n a b w l
        → (a' b' : List ℕ) (w' : Why) (l' : ℕ)
        → FailsPairs ord e n a' b' w' l' → a ≡ a' → b ≡ b' → OnePlace w w' l l'
    pairs_once e n a b w l (in_key s) a' b' w' l' (in_key s') y z = one_refusal e b w l s b' w' l' s' z
    pairs_once e n a b w l (in_key s) a' b' w' l' (at_key {key = k} r i o) y z = absurd (item_none e b w l s k r i z)
    pairs_once e n a b w l (in_key s) a' b' w' l' (in_value {key = k} {bytes = r} i o s') y z =
        absurd (item_none e b w l s k r i z)
    pairs_once e n a b w l (in_key s) a' b' w' l' (after_pair {key = k} {value = v} {bytes = r} i o u s') y z =
        absurd (item_none e b w l s k (v ++ r) i z)
    pairs_once e n a b w l (at_key {key = k} r i o) a' b' w' l' (in_key s) y z =
        absurd (item_none e b' w' l' s k r i (sym z))
    pairs_once e n a b w l (in_value {key = k} {bytes = r} i o s') a' b' w' l' (in_key s) y z =
        absurd (item_none e b' w' l' s k r i (sym z))
    pairs_once e n a b w l (after_pair {key = k} {value = v} {bytes = r} i o u s') a' b' w' l' (in_key s) y z =
        absurd (item_none e b' w' l' s k (v ++ r) i (sym z))
    pairs_once e n a b w l (at_key {key = k} r i o) a' b' w' l' (at_key {key = k'} r' i' o') y z =
        let q = one_item e k i e k' r r' i' z in (
          order_once a k k' w w' o (subst (λ (j : List ℕ). FailsOrder ord j k' w') (sym y) o') q.0,
          ap (length {A = ℕ})
              z,
        )
    pairs_once e n a b w l (at_key {key = k} r i o) a' b' w' l' (in_value {key = k'} {bytes = r'} i' o' s') y z =
        let q = one_item e k i e k' r r' i' z in
        absurd (order_none a k w o (before ord a a' k k' y q.0 o'))
    pairs_once e n a b w l (at_key {key = k} r i o) a' b' w' l'
        (after_pair {key = k'} {value = v'} {bytes = r'} i' o' u' s') y z =
        let q = one_item e k i e k' r (v' ++ r') i' z in
        absurd (order_none a k w o (before ord a a' k k' y q.0 o'))
    pairs_once e n a b w l (in_value {key = k'} {bytes = r'} i' o' s') a' b' w' l' (at_key {key = k} r i o) y z =
        let q = one_item e k i e k' r r' i' (sym z) in
        absurd (order_none a' k w' o (before ord a' a k k' (sym y) q.0 o'))
    pairs_once e n a b w l (after_pair {key = k'} {value = v'} {bytes = r'} i' o' u' s') a' b' w' l'
        (at_key {key = k} r i o) y z =
        let q = one_item e k i e k' r (v' ++ r') i' (sym z) in
        absurd (order_none a' k w' o (before ord a' a k k' (sym y) q.0 o'))
    pairs_once e n a b w l (in_value {key = k} {bytes = r} i o s) a' b' w' l'
        (in_value {key = k'} {bytes = r'} i' o' s') y z =
        let q = one_item e k i e k' r r' i' z in
        one_refusal e r w l s r' w' l' s' q.1
    pairs_once e n a b w l (in_value {key = k} {bytes = r} i o s) a' b' w' l'
        (after_pair {key = k'} {value = v'} {bytes = r'} i' o' u' s') y z =
        let q = one_item e k i e k' r (v' ++ r') i' z in
        absurd (item_none e r w l s v' r' u' q.1)
    pairs_once e n a b w l (after_pair {key = k'} {value = v'} {bytes = r'} i' o' u' s') a' b' w' l'
        (in_value {key = k} {bytes = r} i o s) y z =
        let q = one_item e k i e k' r (v' ++ r') i' (sym z) in
        absurd (item_none e r w' l' s v' r' u' q.1)
    pairs_once e n a b w l (after_pair {count = c} {key = k} {value = v} {bytes = r} i o u s) a' b' w' l'
        (after_pair {key = k'} {value = v'} {bytes = r'} i' o' u' s') y z =
        let q = one_item e k i e k' (v ++ r) (v' ++ r') i' z in
        let p = one_item e v u e v' r r' u' q.1 in
        pairs_once e c k r w l s k' r' w' l' s' q.0 p.1

-- Bytes are refused at only one place, for one reason.
pub one_place : (ord : Order) (e p p' : ℕ) (b : List ℕ) (w w' : Why) → HasRefusal ord e b w p → HasRefusal ord e b w' p'
    → OnePlace w w' p p'
one_place ord e p p' b w w' r r' =
    let o = one_refusal e b w r.left r.fails b w' r'.left r'.fails refl in
    let l = o.1 in
    (o.0, omega (arith, r.sum, r'.sum, l))
