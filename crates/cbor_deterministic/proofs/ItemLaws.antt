-- A strict decoder takes each item in the deterministic encoding, so no item begins another item.
use Rattle.std.proofs.Common.{◌≡◌, ℕ, zero, suc, ◌*◌, List, ◌++◌, subst}
use Rattle.std.proofs.Common.{append-nil, arith}
use Rattle.ciborium_ll_grammar.specs.declared.spelling.Spelling.TheVariants.{Shortest}
use Rattle.ciborium_ll_grammar.specs.declared.hdr.Header.{Header}
use Rattle.ciborium_ll_grammar.specs.Items.{Completes as CompletesAny, AreItems, IsItem, no_items as none_any}
use Rattle.ciborium_ll_grammar.specs.Items.{more_items as more_any}
use Rattle.ciborium_ll_grammar.specs.Items.{positive as any_positive, negative as any_negative, simple as any_simple}
use Rattle.ciborium_ll_grammar.specs.Items.{float as any_float}
use Rattle.ciborium_ll_grammar.specs.Items.{byte_string as any_byte_string, text_string as any_text_string}
use Rattle.ciborium_ll_grammar.specs.Items.{tag as any_tag}
use Rattle.ciborium_ll_grammar.specs.Items.{array as any_array, pairs as any_pairs}
use Rattle.ciborium_ll_grammar.proofs.ItemJoins.{item_before}
use Rattle.ciborium_ll_grammar.proofs.ItemLaws.{one_item as one_any}
use Rattle.cbor_deterministic.specs.declared.Order.{Order}
use Rattle.cbor_deterministic.specs.Deterministic.{Completes, positive, negative, simple, float, byte_string}
use Rattle.cbor_deterministic.specs.Deterministic.{text_string, tag, array, pairs}
use Rattle.cbor_deterministic.specs.Deterministic.{IsDeterministic, item, AreDeterministic, no_items, more_items}
use Rattle.cbor_deterministic.specs.Deterministic.{AreSortedPairs}
use Rattle.cbor_deterministic.specs.Deterministic.{no_pairs, more_pairs}

module _ {ord : Order} where
  mutual
    completed : (e : ℕ) (x : Header) (w : List ℕ) → Completes ord e x w → CompletesAny Shortest e x w
    completed e x w positive = any_positive
    completed e x w negative = any_negative
    completed e x w simple = any_simple
    completed e x w float = any_float
    completed e x w (byte_string l) = any_byte_string l
    completed e x w (text_string l k) = any_text_string l k
    completed e x w (tag i) = any_tag (item_formed _ w i)
    completed e x w (array i) = any_array (all_formed _ _ w i)
    completed e x w (pairs i) = any_pairs (pairs_formed _ _ _ w i)

    item_formed : (e : ℕ) (w : List ℕ) → IsDeterministic ord e w → IsItem Shortest e w
    item_formed e w (item {title = t} {rest = r} {header = x} p c) =
        subst (λ (z : List ℕ). AreItems Shortest e (suc zero) (t ++ z)) (append-nil r)
        (more_any p.is_title p.strict (completed e x r c) none_any)

    all_formed : (e n : ℕ) (w : List ℕ) → AreDeterministic ord e n w → AreItems Shortest e n w
    all_formed e n w no_items = none_any
    all_formed e n w (more_items {count = m} {first = x} {others = y} i is) =
        item_before Shortest e m x y (item_formed e x i) (all_formed e m y is)

    pairs_formed : (e n : ℕ) (a w : List ℕ) → AreSortedPairs ord e n a w → AreItems Shortest e (2 * n) w
    pairs_formed e n a w no_pairs = none_any
    pairs_formed e n a w (more_pairs {count = m} {key = x} {value = y} {others = z} i o u is) =
        let two : suc (suc (2 * m)) ≡ 2 * suc m = omega arith in
        subst (λ (k : ℕ). AreItems Shortest e k (x ++ (y ++ z))) two
        (item_before Shortest e _ x (y ++ z) (item_formed e x i)
        (item_before Shortest e _ y z (item_formed e y u) (pairs_formed e m _ z is)))

  -- No item begins another one.
  pub one_item : (e : ℕ) (w : List ℕ) → IsDeterministic ord e w → (e' : ℕ) (w' v v' : List ℕ)
      → IsDeterministic ord e' w'
      → w ++ v ≡ w' ++ v' → (w ≡ w') × (v ≡ v')
  one_item e w i e' w' v v' i' z = one_any Shortest Shortest e e' w w' v v' (item_formed e w i) (item_formed e' w' i') z

-- An item in the deterministic encoding is an item in its shortest spelling, to the same depth.
pub well_formed : (ord : Order) (e : ℕ) (w : List ℕ) → IsDeterministic ord e w → IsItem Shortest e w
well_formed ord e w i = item_formed e w i
