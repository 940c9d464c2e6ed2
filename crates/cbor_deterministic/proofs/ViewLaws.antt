-- The parts of a checked item.
use Rattle.cbor_deterministic.specs.Orders.{Precedes}
use Rattle.ciborium_ll_grammar.specs.declared.hdr.Header.{Header}
use Rattle.ciborium_ll_grammar.specs.declared.hdr.Header.TheVariants as h
use Rattle.ciborium_ll_grammar.specs.declared.hdr.Float.{Float}
use Rattle.cbor_deterministic.specs.declared.Order.{Order}
use Rattle.std.proofs.Common.{◌≡◌, ℕ, zero, suc, ◌-◌, ◌<◌, List, [], ◌++◌, length, refl, sym, ◌∙◌, ap, subst}
use Rattle.std.proofs.Common.{append_assoc, append-nil, arith, length-append}
use Rattle.std.proofs.lemmas.Grind.{not_there}
use Rattle.std.proofs.Math.Logic.{∥∥₁_map}
use Rattle.cbor_deterministic.specs.declared.Why.{Why}
use Rattle.cbor_deterministic.specs.Preferred.{IsPreferredTitle}
use Rattle.cbor_deterministic.specs.Deterministic.{Completes, array, pairs, IsDeterministic, item, AreDeterministic}
use Rattle.cbor_deterministic.specs.Deterministic.{no_items, more_items, AreSortedPairs}
use Rattle.cbor_deterministic.specs.Deterministic.{no_pairs, more_pairs}
use Rattle.cbor_deterministic.specs.Refusals.{FailsTitle, FailsItem, at_title}
use Rattle.cbor_deterministic.specs.Fronts.{InFront}
use Rattle.cbor_deterministic.specs.Views.{Opens, HasPairs, IsPairOf, first_pair, later_pair, HasKey, HasNoKey}
use Rattle.cbor_deterministic.specs.Views.{IsBytesOf, IsTextOf, IsOpenedBy}
use Rattle.cbor_deterministic.specs.declared.view.Item.{Item}
use Rattle.ciborium_ll_text.specs.Text.{IsCharacters}
use Rattle.std.proofs.Common.{◌+◌, Option, Some, None, IfSome, MatchOption, Bool, true, false, nat_eq}
use Rattle.std.proofs.lemmas.Bool.Decides.{nat_tests}
use Rattle.cbor_deterministic.specs.Deterministic.{byte_string, text_string, positive, negative, simple, float, tag}
use Rattle.std.proofs.Common.{◌⊎◌, inl, inr, IsTrue}
use Rattle.ciborium_ll_text.proofs.Lists.{length_zero}
use Rattle.ciborium_ll_text.proofs.Utf8Laws.{text_or_none}
use Rattle.ciborium_ll_grammar.specs.Title.{IsInRange, shortest_title}
use Rattle.ciborium_ll_grammar.proofs.TitleLaws.{one_title, IsTitle-shortest}
use Rattle.cbor_deterministic.proofs.TitleRuns.{one_preferred, preferred_some, not_both_ways}
use Rattle.cbor_deterministic.proofs.ItemLaws.{one_item}
use Rattle.cbor_deterministic.proofs.OrderLaws.{precedes_trans, not_itself, not_both}
use Rattle.cbor_deterministic.proofs.NoneLaws.{item_none}

-- ---- one item

module _ {ord : Order} where
  pub checked_head : (e : ℕ) (w : List ℕ) (why : Why) → ∥ IsDeterministic ord e w ∥₁ → FailsTitle w why → ⊥
  checked_head e w why t s =
      not_there t (λ i. item_none e w why (length w) (at_title s) w [] i (sym (append-nil w)))

  completes_go : (e : ℕ) (w u rest : List ℕ) (x : Header) → IsDeterministic ord e w → (t : List ℕ)
      → IsPreferredTitle t x → w ++ u ≡ t ++ rest
      → u ≡ [] → Completes ord e x rest
  completes_go e w u rest x (item {title = o} {rest = r} {header = y} p c) t q z n =
      let one = one_preferred o t (r ++ u) rest y x p q (sym (append_assoc o r u) ∙ z) in
      let m : r ≡ rest = sym (append-nil r) ∙ ap (λ (v : List ℕ). r ++ v) (sym n) ∙ one.2 in
      subst (λ (v : List ℕ). Completes ord e x v) m (subst (λ (k : Header). Completes ord e k r) one.1 c)

  pub opened : (e : ℕ) (w rest : List ℕ) (x : Header) → ∥ IsDeterministic ord e w ∥₁
      → InFront (λ t. IsPreferredTitle t x) w rest
      → Opens ord e w x rest
  opened e w rest x t f = record {
    title = f.front;
    is_title = f.is;
    whole = f.whole;
    completes = ∥∥₁_map t (λ i. completes_go e w [] rest x i f.front f.is (append-nil w ∙ f.whole) refl);
  }

  -- An item has one header and one sequence of contents.
  pub one_opening : (e : ℕ) (w r r' : List ℕ) (x x' : Header) → Opens ord e w x r → Opens ord e w x' r'
      → (x ≡ x') × (r ≡ r')
  one_opening e w r r' x x' o o' =
      let one = one_preferred o.title o'.title r r' x x' o.is_title o'.is_title (sym o.whole ∙ o'.whole) in
      (one.1, one.2)

-- ---- an array

module _ {ord : Order} where
  no_level : (n : ℕ) (w : List ℕ) → Completes ord zero (h.Array (Some n)) w → ⊥
  no_level n w c = elim c [ ]

  pub array_level : (e n : ℕ) (w : List ℕ) → ∥ Completes ord e (h.Array (Some n)) w ∥₁ → 0 < e
  array_level zero n w t = absurd (not_there t (no_level n w))
  array_level (suc e) n w t = omega arith

  of_array : (e n : ℕ) (w : List ℕ) → Completes ord (suc e) (h.Array (Some n)) w → AreDeterministic ord e n w
  of_array e n w (array i) = i

  pub array_checked : (e n : ℕ) (w : List ℕ) → ∥ Completes ord e (h.Array (Some n)) w ∥₁
      → ∥ AreDeterministic ord (e - 1) n w ∥₁
  array_checked e n w t =
      let l = array_level e n w t in
      let s : e ≡ suc (e - 1) = omega arith in
      ∥∥₁_map (subst (λ (d : ℕ). ∥ Completes ord d (h.Array (Some n)) w ∥₁) s t) (of_array (e - 1) n w)

  items_go : (e n : ℕ) (w u behind : List ℕ) → AreDeterministic ord e n w → 0 < n
      → InFront (IsDeterministic ord e) (w ++ u) behind → u ≡ []
      → AreDeterministic ord e (n - 1) behind
  items_go e n w u behind no_items l f z = absurd (omega arith)
  items_go e n w u behind (more_items {count = m} {first = x} {others = y} i is) l f z =
      let one = one_item e x i e f.front (y ++ u) behind f.is (sym (append_assoc x y u) ∙ f.whole) in
      let k : y ≡ behind = sym (append-nil y) ∙ ap (λ (v : List ℕ). y ++ v) (sym z) ∙ one.1 in
      let j : m ≡ suc m - 1 = omega arith in
      subst (λ (d : ℕ). AreDeterministic ord e d behind) j (subst (λ (v : List ℕ). AreDeterministic ord e m v) k is)

  pub items_left : (e n : ℕ) (w behind : List ℕ) → ∥ AreDeterministic ord e n w ∥₁ → 0 < n
      → InFront (IsDeterministic ord e) w behind
      → ∥ AreDeterministic ord e (n - 1) behind ∥₁
  items_left e n w behind t l f =
      ∥∥₁_map t (λ i. items_go e n w [] behind i l
      (subst (λ (v : List ℕ). InFront (IsDeterministic ord e) v behind) (sym (append-nil w)) f) refl)

  first_go : (e n : ℕ) (w : List ℕ) (why : Why) (left : ℕ) → AreDeterministic ord e n w → 0 < n
      → FailsItem ord e w why left → ⊥
  first_go e n w why left no_items l s = absurd (omega arith)
  first_go e n w why left (more_items {first = x} {others = y} i is) l s = item_none e w why left s x y i refl

  pub items_go_on : (e n : ℕ) (w : List ℕ) (why : Why) (left : ℕ) → ∥ AreDeterministic ord e n w ∥₁ → 0 < n
      → FailsItem ord e w why left → ⊥
  items_go_on e n w why left t l s = not_there t (λ i. first_go e n w why left i l s)

  pub as_head : (e : ℕ) (w : List ℕ) (x y : Header) (rest : List ℕ) → Opens ord e w x rest → x ≡ y
      → Opens ord e w y rest
  as_head e w x y rest o s = subst (λ (z : Header). Opens ord e w z rest) s o

-- ---- a map

module _ {ord : Order} where
  map_flat : (n : ℕ) (w : List ℕ) → Completes ord zero (h.Map (Some n)) w → ⊥
  map_flat n w c = elim c [ ]

  pub map_level : (e n : ℕ) (w : List ℕ) → ∥ Completes ord e (h.Map (Some n)) w ∥₁ → 0 < e
  map_level zero n w t = absurd (not_there t (map_flat n w))
  map_level (suc e) n w t = omega arith

  of_map : (e n : ℕ) (w : List ℕ) → Completes ord (suc e) (h.Map (Some n)) w → HasPairs ord e n w
  of_map e n w (pairs i) = record { above = []; are = i }

  pub map_checked : (e n : ℕ) (w : List ℕ) → ∥ Completes ord e (h.Map (Some n)) w ∥₁ → ∥ HasPairs ord (e - 1) n w ∥₁
  map_checked e n w t =
      let l = map_level e n w t in
      let s : e ≡ suc (e - 1) = omega arith in
      ∥∥₁_map (subst (λ (d : ℕ). ∥ Completes ord d (h.Map (Some n)) w ∥₁) s t) (of_map (e - 1) n w)

-- ---- the pairs of a map, one by one

-- The first of some pairs, and the others.
record FirstPair (ord : Order) (e n : ℕ) (above w : List ℕ) : Type 0 where
  pub key : List ℕ
  pub value : List ℕ
  pub others : List ℕ
  pub is_key : IsDeterministic ord e key
  pub order : Precedes ord above key
  pub is_value : IsDeterministic ord e value
  pub are : AreSortedPairs ord e (n - 1) key others
  pub whole : w ≡ key ++ (value ++ others)

module _ {ord : Order} where
  pairs_go : (e n : ℕ) (above w : List ℕ) → AreSortedPairs ord e n above w → 0 < n → FirstPair ord e n above w
  pairs_go e n above w no_pairs l = absurd (omega arith)
  pairs_go e n above w (more_pairs {count = m} {key = k} {value = v} {others = r} i o u is) l =
      let j : m ≡ suc m - 1 = omega arith in
      record {
        key = k;
        value = v;
        others = r;
        is_key = i;
        order = o;
        is_value = u;
        are = subst (λ (d : ℕ). AreSortedPairs ord e d k r) j is;
        whole = refl;
      }

  -- The first key of some pairs does not fail as an item.
  pub key_there : (e n : ℕ) (w : List ℕ) (why : Why) (left : ℕ) → ∥ HasPairs ord e n w ∥₁ → 0 < n
      → FailsItem ord e w why left
      → ⊥
  key_there e n w why left t l s = not_there t (λ p.
      let f = pairs_go e n p.above w p.are l in
      item_none e w why left s f.key (f.value ++ f.others) f.is_key f.whole)

  pub value_there : (e n : ℕ) (w key behind : List ℕ) (why : Why) (left : ℕ) → ∥ HasPairs ord e n w ∥₁ → 0 < n
      → IsDeterministic ord e key → w ≡ key ++ behind → FailsItem ord e behind why left → ⊥
  value_there e n w key behind why left t l i z s = not_there t (λ p.
      let f = pairs_go e n p.above w p.are l in
      let one = one_item e key i e f.key behind (f.value ++ f.others) f.is_key (sym z ∙ f.whole) in
      item_none e behind why left s f.value f.others f.is_value one.1)

  pairs_left_go : (e n : ℕ) (w key value behind last : List ℕ) → HasPairs ord e n w → 0 < n → IsDeterministic ord e key
      → w ≡ key ++ behind → IsDeterministic ord e value → behind ≡ value ++ last → HasPairs ord e (n - 1) last
  pairs_left_go e n w key value behind last p l i z j y =
      let f = pairs_go e n p.above w p.are l in
      let one = one_item e key i e f.key behind (f.value ++ f.others) f.is_key (sym z ∙ f.whole) in
      let two = one_item e value j e f.value last f.others f.is_value (sym y ∙ one.1) in
      record { above = f.key; are = subst (λ (v : List ℕ). AreSortedPairs ord e (n - 1) f.key v) (sym two.1) f.are }

  pub pairs_left : (e n : ℕ) (w key value behind last : List ℕ) → ∥ HasPairs ord e n w ∥₁ → 0 < n
      → IsDeterministic ord e key
      → w ≡ key ++ behind → IsDeterministic ord e value → behind ≡ value ++ last → ∥ HasPairs ord e (n - 1) last ∥₁
  pairs_left e n w key value behind last t l i z j y =
      ∥∥₁_map t (λ p. pairs_left_go e n w key value behind last p l i z j y)

-- A pair is the first of some pairs, or one of the others.
pub data Which (ord : Order) (e : ℕ) (key value last k v : List ℕ) : Type 0 where
  the_first : k ≡ key → v ≡ value → Which ord e key value last k v
  another : IsPairOf ord e last k v → Which ord e key value last k v

module _ {ord : Order} where
  pub which : (e : ℕ) (w key value behind last k v : List ℕ) → IsDeterministic ord e key → w ≡ key ++ behind
      → IsDeterministic ord e value
      → behind ≡ value ++ last → IsPairOf ord e w k v → Which ord e key value last k v
  which e w key value behind last k v i z j y (first_pair o p q) =
      let one = one_item e key i e k behind (v ++ o) p (sym z) in
      let two = one_item e value j e v last o q (sym y ∙ one.1) in
      the_first (sym one.0) (sym two.0)
  which e w key value behind last k v i z j y (later_pair {other = a} {another = b} {others = o} p q r) =
      let one = one_item e key i e a behind (b ++ o) p (sym z) in
      let two = one_item e value j e b last o q (sym y ∙ one.1) in
      another (subst (λ (u : List ℕ). IsPairOf ord e u k v) (sym two.1) r)

  item_some : (e : ℕ) (w : List ℕ) → IsDeterministic ord e w → 0 < length w
  item_some e w (item {title = t} {rest = r} {header = x} p c) =
      omega (arith, preferred_some t x p, length-append t r)

  pair_some : (e : ℕ) (w k v : List ℕ) → IsPairOf ord e w k v → 0 < length w
  pair_some e w k v (first_pair o p q) = omega (arith, item_some e k p, length-append k (v ++ o))
  pair_some e w k v (later_pair {other = a} {another = b} {others = o} p q r) =
      omega (arith, item_some e a p, length-append a (b ++ o))

  -- The keys of pairs that ascend from `above` come after `above`.
  behind_all : (e n : ℕ) (above w k v : List ℕ) → AreSortedPairs ord e n above w → IsPairOf ord e w k v
      → Precedes ord above k
  behind_all e n above w k v no_pairs q = absurd (omega (arith, pair_some e [] k v q))
  behind_all e n above w k v (more_pairs {count = m} {key = a} {value = b} {others = r} i o u is) q =
      go (which e (a ++ (b ++ r)) a b (b ++ r) r k v i refl u refl q)
      (λ p. behind_all e m a r k v is p)
    where
      go : Which ord e a b r k v → (IsPairOf ord e r k v → Precedes ord a k) → Precedes ord above k
      go (the_first s t) f = subst (λ (z : List ℕ). Precedes ord above z) (sym s) o
      go (another p) f = precedes_trans ord above a k o (f p)

  pub first_here : (e : ℕ) (w key value behind last k : List ℕ) → IsDeterministic ord e key → w ≡ key ++ behind
      → IsDeterministic ord e value
      → behind ≡ value ++ last → key ≡ k → IsPairOf ord e w k value
  first_here e w key value behind last k i z j y s =
      subst (λ (u : List ℕ). IsPairOf ord e w u value) s
      (subst (λ (u : List ℕ). IsPairOf ord e u key value) (sym (z ∙ ap (λ (u : List ℕ). key ++ u) y))
      (first_pair last i j))

  pub later_there : (e : ℕ) (w key value behind last k v : List ℕ) → IsDeterministic ord e key → w ≡ key ++ behind
      → IsDeterministic ord e value
      → behind ≡ value ++ last → IsPairOf ord e last k v → IsPairOf ord e w k v
  later_there e w key value behind last k v i z j y q =
      subst (λ (u : List ℕ). IsPairOf ord e u k v) (sym (z ∙ ap (λ (u : List ℕ). key ++ u) y)) (later_pair i j q)

  pub later_back : (e : ℕ) (w key value behind last k v : List ℕ) → IsDeterministic ord e key → w ≡ key ++ behind
      → IsDeterministic ord e value → behind ≡ value ++ last → (key ≡ k → ⊥) → IsPairOf ord e w k v
      → IsPairOf ord e last k v
  later_back e w key value behind last k v i z j y differ q = go (which e w key value behind last k v i z j y q)
    where
      go : Which ord e key value last k v → IsPairOf ord e last k v
      go (the_first s t) = absurd (differ (sym s))
      go (another p) = p

  no_more_go : (e n : ℕ) (w key value behind last k v : List ℕ) → HasPairs ord e n w → 0 < n → IsDeterministic ord e key
      → w ≡ key ++ behind → IsDeterministic ord e value → behind ≡ value ++ last → Precedes ord k key
      → IsPairOf ord e w k v → ⊥
  no_more_go e n w key value behind last k v p l i z j y o q =
      let f = pairs_go e n p.above w p.are l in
      let one = one_item e key i e f.key behind (f.value ++ f.others) f.is_key (sym z ∙ f.whole) in
      let two = one_item e value j e f.value last f.others f.is_value (sym y ∙ one.1) in
      let are : AreSortedPairs ord e (n - 1) key last =
      subst (λ (u : List ℕ). AreSortedPairs ord e (n - 1) u last) (sym one.0)
      (subst (λ (u : List ℕ). AreSortedPairs ord e (n - 1) f.key u) (sym two.1) f.are) in
      go are (which e w key value behind last k v i z j y q)
    where
      go : AreSortedPairs ord e (n - 1) key last → Which ord e key value last k v → ⊥
      go are (the_first s t) = not_itself ord key (subst (λ (u : List ℕ). Precedes ord u key) s o)
      go are (another r) = not_both ord key k (behind_all e (n - 1) key last k v are r) o

  -- No pair has a key that comes before the first key.
  pub no_more : (e n : ℕ) (w key value behind last k v : List ℕ) → ∥ HasPairs ord e n w ∥₁ → 0 < n
      → IsDeterministic ord e key
      → w ≡ key ++ behind → IsDeterministic ord e value → behind ≡ value ++ last → Precedes ord k key
      → IsPairOf ord e w k v → ⊥
  no_more e n w key value behind last k v t l i z j y o q =
      not_there t (λ p. no_more_go e n w key value behind last k v p l i z j y o q)

  pub none_after : (e n : ℕ) (all w key value behind last k : List ℕ)
      → ((v : List ℕ) → IsPairOf ord e all k v → IsPairOf ord e w k v) → ∥ HasPairs ord e n w ∥₁ → 0 < n
      → IsDeterministic ord e key → w ≡ key ++ behind → IsDeterministic ord e value → behind ≡ value ++ last
      → Precedes ord k key → (v : List ℕ) → IsPairOf ord e all k v → ⊥
  none_after e n all w key value behind last k back t l i z j y o v q =
      no_more e n w key value behind last k v t l i z j y o (back v q)

  none_go : (e n : ℕ) (above w k v : List ℕ) → AreSortedPairs ord e n above w → n ≡ 0 → IsPairOf ord e w k v → ⊥
  none_go e n above w k v no_pairs z q = omega (arith, pair_some e [] k v q)
  none_go e n above w k v (more_pairs i o u is) z q = omega arith

  pub none_left : (e n : ℕ) (w k v : List ℕ) → ∥ HasPairs ord e n w ∥₁ → n ≡ 0 → IsPairOf ord e w k v → ⊥
  none_left e n w k v t z q = not_there t (λ p. none_go e n p.above w k v p.are z q)

  pub get_result : (e n : ℕ) (w rest key : List ℕ) (r : Option Item) → Opens ord e w (h.Map (Some n)) rest
      → MatchOption r ((value : List ℕ) → IsPairOf ord (e - 1) rest key value
      → ⊥) (λ i. IsPairOf ord (e - 1) rest key i.bytes.now)
      → MatchOption r (HasNoKey ord e w key) (λ i. HasKey ord e w key i.bytes.now)
  get_result e n w rest key None o f = λ value k.
      let one = one_opening e w k.pairs rest (h.Map (Some k.count)) (h.Map (Some n)) k.opens o in
      f value (subst (λ (u : List ℕ). IsPairOf ord (e - 1) u key value) one.1 k.has)
  get_result e n w rest key (Some i) o f = record { count = n; pairs = rest; opens = o; has = f }

-- A value that was found may go down one level less than its map.
pub one_level_less : (e : ℕ) (r : Option Item) → 0 < e → IfSome r (λ i. i.depth ≡ e - 1)
    → IfSome r (λ i. e ≡ i.depth + 1)
one_level_less e None some less = tt
one_level_less e (Some i) some less = omega (arith, some, less)

-- ---- contents

len_is : (a b : ℕ) → ¬ (¬ (a ≡ b)) → a ≡ b
len_is a b f = absurd_or (nat_eq a b) refl
  where
    absurd_or : (t : Bool) → nat_eq a b ≡ t → a ≡ b
    absurd_or true e = grind (arith, nat_tests)
    absurd_or false e = absurd (f (λ s. grind (arith, nat_tests)))

module _ {ord : Order} where
  body_go : (len d : ℕ) (w : List ℕ) → Completes ord d (h.Bytes (Some len)) w → length w ≡ len
  body_go len d w (byte_string l) = l

  text_go : (len d : ℕ) (w : List ℕ) → Completes ord d (h.Text (Some len)) w → length w ≡ len
  text_go len d w (text_string l k) = l

  open_body : (d : ℕ) (w : List ℕ) → Completes ord d (h.Bytes None) w → ⊥
  open_body d w c = elim c [ ]

  open_text : (d : ℕ) (w : List ℕ) → Completes ord d (h.Text None) w → ⊥
  open_text d w c = elim c [ ]

  pub bytes_of : (e : ℕ) (len : Option ℕ) (w rest : List ℕ) → Opens ord e w (h.Bytes len) rest → IsBytesOf w rest
  bytes_of e None w rest o = absurd (not_there o.completes (open_body e rest))
  bytes_of e (Some len) w rest o =
      let l : length rest ≡ len = len_is (length rest) len (λ n. not_there o.completes (λ c. n (body_go len e rest c)))
      in
      record {
        title = o.title;
        is_title = subst (λ (k : ℕ). IsPreferredTitle o.title (h.Bytes (Some k))) (sym l) o.is_title;
        whole = o.whole;
      }

  pub text_is : (e : ℕ) (len : Option ℕ) (w rest : List ℕ) → Opens ord e w (h.Text len) rest → IsTextOf w rest
  text_is e None w rest o = absurd (not_there o.completes (open_text e rest))
  text_is e (Some len) w rest o =
      let l : length rest ≡ len = len_is (length rest) len (λ n. not_there o.completes (λ c. n (text_go len e rest c)))
      in
      record {
        title = o.title;
        is_title = subst (λ (k : ℕ). IsPreferredTitle o.title (h.Text (Some k))) (sym l) o.is_title;
        whole = o.whole;
      }

  text_valid : (e : ℕ) (len : Option ℕ) (w : List ℕ) → Completes ord e (h.Text len) w → IsCharacters w
  text_valid e (Some len) w (text_string l k) = k
  text_valid e None w c = elim c [ ]

  -- The contents of a text are UTF-8.
  pub text_told : (e : ℕ) (len : Option ℕ) (w rest : List ℕ) → Opens ord e w (h.Text len) rest → IsCharacters rest
  text_told e len w rest o = go (text_or_none rest)
    where
      go : IsCharacters rest ⊎ (IsCharacters rest → ⊥) → IsCharacters rest
      go (inl t) = t
      go (inr n) = absurd (not_there o.completes (λ c. n (text_valid e len rest c)))

  -- ---- items without contents

  -- An item with empty contents is its title.
  value_item : (e : ℕ) (w rest : List ℕ) (x : Header) → Opens ord e w x rest
      → (Completes ord e x rest → length rest ≡ 0) → IsPreferredTitle w x
  value_item e w rest x o f =
      let l : length rest ≡ 0 = len_is (length rest) 0 (λ n. not_there o.completes (λ c. n (f c))) in
      let n : rest ≡ [] = length_zero rest l in
      let whole : w ≡ o.title = o.whole ∙ ap (λ (v : List ℕ). o.title ++ v) n ∙ append-nil o.title in
      subst (λ (v : List ℕ). IsPreferredTitle v x) (sym whole) o.is_title

  positive_go : (e n : ℕ) (rest : List ℕ) → Completes ord e (h.Positive n) rest → length rest ≡ 0
  positive_go e n rest positive = refl

  negative_go : (e n : ℕ) (rest : List ℕ) → Completes ord e (h.Negative n) rest → length rest ≡ 0
  negative_go e n rest negative = refl

  simple_go : (e n : ℕ) (rest : List ℕ) → Completes ord e (h.Simple n) rest → length rest ≡ 0
  simple_go e n rest simple = refl

  float_go : (e : ℕ) (n : Float) (rest : List ℕ) → Completes ord e (h.Float n) rest → length rest ≡ 0
  float_go e n rest float = refl

  pub positive_item : (e n : ℕ) (w rest : List ℕ) → Opens ord e w (h.Positive n) rest
      → IsPreferredTitle w (h.Positive n)
  positive_item e n w rest o = value_item e w rest (h.Positive n) o (positive_go e n rest)

  pub negative_item : (e n : ℕ) (w rest : List ℕ) → Opens ord e w (h.Negative n) rest
      → IsPreferredTitle w (h.Negative n)
  negative_item e n w rest o = value_item e w rest (h.Negative n) o (negative_go e n rest)

  pub simple_item : (e n : ℕ) (w rest : List ℕ) → Opens ord e w (h.Simple n) rest → IsPreferredTitle w (h.Simple n)
  simple_item e n w rest o = value_item e w rest (h.Simple n) o (simple_go e n rest)

  pub float_item : (e : ℕ) (n : Float) (w rest : List ℕ) → Opens ord e w (h.Float n) rest
      → IsPreferredTitle w (h.Float n)
  float_item e n w rest o = value_item e w rest (h.Float n) o (float_go e n rest)

  -- If a title of a header is the whole item, the item has this header.
  pub whole_header : (e : ℕ) (w rest : List ℕ) (x y : Header) → Opens ord e w x rest → IsPreferredTitle w y → x ≡ y
  whole_header e w rest x y o p =
      (one_preferred o.title w rest [] x y o.is_title p (sym o.whole ∙ sym (append-nil w))).1

  -- ---- headers

  pub opened_by : (e : ℕ) (w rest : List ℕ) (x : Header) → Opens ord e w x rest → IsOpenedBy w x
  opened_by e w rest x o = record { title = o.title; contents = rest; is_title = o.is_title; whole = o.whole }

  pub same_header : (e : ℕ) (w rest : List ℕ) (x y : Header) → Opens ord e w x rest → IsOpenedBy w y → x ≡ y
  same_header e w rest x y o b =
      (one_preferred o.title b.title rest b.contents x y o.is_title b.is_title (sym o.whole ∙ b.whole)).1

  -- An item with the title of a map has a level for its pairs, and these are checked.
  pub opened_level : (e n : ℕ) (w rest : List ℕ) → Opens ord e w (h.Map (Some n)) rest → 0 < e
  opened_level e n w rest o = map_level e n rest o.completes

  pub opened_pairs : (e n : ℕ) (w rest : List ℕ) → Opens ord e w (h.Map (Some n)) rest
      → ∥ HasPairs ord (e - 1) n rest ∥₁
  opened_pairs e n w rest o = map_checked e n rest o.completes

  pub bytes_header : (e : ℕ) (w rest body : List ℕ) (x : Header) → Opens ord e w x rest → IsBytesOf w body
      → x ≡ h.Bytes (Some (length body))
  bytes_header e w rest body x o b =
      same_header e w rest x _ o (record { title = b.title; contents = body; is_title = b.is_title; whole = b.whole })

  pub text_header : (e : ℕ) (w rest body : List ℕ) (x : Header) → Opens ord e w x rest → IsTextOf w body
      → x ≡ h.Text (Some (length body))
  text_header e w rest body x o b =
      same_header e w rest x _ o (record { title = b.title; contents = body; is_title = b.is_title; whole = b.whole })

  -- An item is the shortest title of a header and these bytes exactly if it has this header and these contents.
  pub titled_is : (e : ℕ) (w rest b : List ℕ) (x y : Header) → Opens ord e w x rest → x ≡ y → rest ≡ b
      → w ≡ shortest_title y ++ b
  titled_is e w rest b x y o s c =
      o.whole ∙ ap (λ (v : List ℕ). v ++ rest) (o.is_title.strict.shortest ∙ ap shortest_title s)
      ∙ ap (λ (v : List ℕ). shortest_title y ++ v) c

  pub is_titled : (e : ℕ) (w rest b : List ℕ) (x y : Header) → Opens ord e w x rest → IsInRange y
      → w ≡ shortest_title y ++ b → (x ≡ y) × (rest ≡ b)
  is_titled e w rest b x y o r z =
      let one = one_title o.title (shortest_title y) rest b x y o.is_title.is_title (IsTitle-shortest y r)
      (sym o.whole ∙ z) in
      (one.1, one.2)

  pub titled_told : (e : ℕ) (w rest b : List ℕ) (x y : Header) → Opens ord e w x rest → IsInRange y → (r : Bool) → x ≡ y
      → (IsTrue r → rest ≡ b) × (rest ≡ b → IsTrue r)
      → (IsTrue r → w ≡ shortest_title y ++ b) × (w ≡ shortest_title y ++ b → IsTrue r)
  titled_told e w rest b x y o range r s i = (
    λ t. titled_is e w rest b x y o s (i.0 t),
    λ z. i.1 (is_titled e w rest b x y o range z).1,
  )

  pub titled_untold : (e : ℕ) (w rest b : List ℕ) (x y : Header) → Opens ord e w x rest → IsInRange y → (r : Bool)
      → r ≡ false → (IsTrue r → x ≡ y) × (x ≡ y → IsTrue r)
      → (IsTrue r → w ≡ shortest_title y ++ b) × (w ≡ shortest_title y ++ b → IsTrue r)
  titled_untold e w rest b x y o range r fails i = (
    λ t. absurd (not_both_ways r fails t),
    λ z. i.1 (is_titled e w rest b x y o range z).0,
  )

  -- ---- a tag

  tag_flat : (n : ℕ) (w : List ℕ) → Completes ord zero (h.Tag n) w → ⊥
  tag_flat n w c = elim c [ ]

  pub tag_level : (e n : ℕ) (w : List ℕ) → ∥ Completes ord e (h.Tag n) w ∥₁ → 0 < e
  tag_level zero n w t = absurd (not_there t (tag_flat n w))
  tag_level (suc e) n w t = omega arith

  of_tag : (e n : ℕ) (w : List ℕ) → Completes ord (suc e) (h.Tag n) w → IsDeterministic ord e w
  of_tag e n w (tag i) = i

  pub tag_checked : (e n : ℕ) (w : List ℕ) → ∥ Completes ord e (h.Tag n) w ∥₁ → ∥ IsDeterministic ord (e - 1) w ∥₁
  tag_checked e n w t =
      let l = tag_level e n w t in
      let s : e ≡ suc (e - 1) = omega arith in
      ∥∥₁_map (subst (λ (d : ℕ). ∥ Completes ord d (h.Tag n) w ∥₁) s t) (of_tag (e - 1) n w)

-- A key that comes before another key is not the same key.
pub apart : (ord : Order) (key k : List ℕ) → Precedes ord key k → key ≡ k → ⊥
apart ord key k o s = not_itself ord k (subst (λ (u : List ℕ). Precedes ord u k) s o)

-- ---- the answers of a search

-- The result of a search for the key with these bytes in a map.
abbrev pub Gets : Order → ℕ → List ℕ → List ℕ → Option Item → Type 0
Gets ord e w key r = MatchOption r (HasNoKey ord e w key) (λ i. HasKey ord e w key i.bytes.now)

pub with_contents : (ord : Order) (e : ℕ) (w : List ℕ) (x : Header) (r : Option Item) (b b' : List ℕ) → b ≡ b'
    → Gets ord e w (shortest_title x ++ b) r → Gets ord e w (shortest_title x ++ b') r
with_contents ord e w x r b b' s g = subst (λ (k : List ℕ). Gets ord e w (shortest_title x ++ k) r) s g

pub without_contents : (ord : Order) (e : ℕ) (w : List ℕ) (x : Header) (r : Option Item)
    → Gets ord e w (shortest_title x ++ []) r → Gets ord e w (shortest_title x) r
without_contents ord e w x r g = subst (λ (k : List ℕ). Gets ord e w k r) (append-nil (shortest_title x)) g
