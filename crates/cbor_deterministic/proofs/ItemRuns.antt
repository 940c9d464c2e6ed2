-- Items in a row at the beginning of bytes, and the place of a fault in the bytes.
use Rattle.cbor_deterministic.specs.Orders.{Precedes}
use Rattle.ciborium_ll_grammar.specs.declared.hdr.Header.{Header}
use Rattle.ciborium_ll_grammar.specs.declared.hdr.Header.TheVariants as h
use Rattle.ciborium_ll_grammar.specs.declared.hdr.Float.{Float}
use Rattle.cbor_deterministic.specs.declared.Order.{Order}
use Rattle.std.proofs.Common.{Some, ◌≡◌, ℕ, zero, suc, ◌-◌, ◌<◌, ◌≤◌, ◌⊎◌, inl, inr, List, [], ◌++◌, length, take}
use Rattle.std.proofs.Common.{refl, sym, ◌∙◌, ap, subst, append_assoc, arith, Bor, Result, Ok, Err, MatchResult}
use Rattle.std.proofs.Common.{◌+◌, drop, take-append-drop}
use Rattle.cbor_deterministic.specs.declared.Why.{Why}
use Rattle.cbor_deterministic.specs.declared.Stop.{Stop}
use Rattle.cbor_deterministic.specs.Preferred.{IsPreferredTitle}
use Rattle.cbor_deterministic.specs.Deterministic.{Completes, positive, negative, simple, float, byte_string}
use Rattle.cbor_deterministic.specs.Deterministic.{text_string, tag, array, pairs}
use Rattle.cbor_deterministic.specs.Deterministic.{IsDeterministic, item, AreDeterministic, no_items, more_items}
use Rattle.cbor_deterministic.specs.Deterministic.{AreSortedPairs, no_pairs, more_pairs}
use Rattle.cbor_deterministic.specs.Refusals.{FailsOrder, FailsItem, after_title, FailsWithin, in_tag, in_array}
use Rattle.cbor_deterministic.specs.Refusals.{in_map, FailsItems, in_first, after_first, FailsPairs, in_key, at_key}
use Rattle.cbor_deterministic.specs.Refusals.{in_value}
use Rattle.cbor_deterministic.specs.Refusals.{after_pair, too_deep}
use Rattle.cbor_deterministic.specs.declared.Why.TheVariants.{Deep}
use Rattle.cbor_deterministic.specs.Fronts.{InFront, IsOfLength, IsTextOfLength}
use Rattle.cbor_deterministic.proofs.FrontLaws.{Leads, map_front, front_is}

-- The answer of a call: the bytes have a front of this kind, or they fail.
abbrev pub Gives : (List ℕ → Type 0) → (List ℕ → Why → ℕ → Type 0) → List ℕ → Result (Bor (List ℕ)) Stop → Type 0
Gives P S bytes result =
    MatchResult result (λ rest. InFront P bytes rest.now) (λ stop. S bytes stop.why stop.left)

-- ---- one item

module _ (ord : Order) where
  -- A title and the bytes that complete it are an item.
  item_in_front : (e : ℕ) (x : Header) (bytes rest more : List ℕ) → InFront (λ t. IsPreferredTitle t x) bytes rest
      → InFront (Completes ord e x) rest more → InFront (IsDeterministic ord e) bytes more
  item_in_front e x bytes rest more f g = record {
    front = f.front ++ g.front;
    is = item f.is g.is;
    whole = f.whole ∙ ap (λ (z : List ℕ). f.front ++ z) g.whole ∙ sym (append_assoc f.front g.front more);
  }

  item_stops : (e : ℕ) (x : Header) (bytes rest : List ℕ) (why : Why) (left : ℕ)
      → InFront (λ t. IsPreferredTitle t x) bytes rest
      → FailsWithin ord e x (length bytes) rest why left → FailsItem ord e bytes why left
  item_stops e x bytes rest why left f g =
      subst (λ (z : List ℕ). FailsItem ord e z why left) (sym f.whole)
      (after_title f.is (subst (λ (z : List ℕ). FailsWithin ord e x (length z) rest why left) f.whole g))

  pub item_result : (e : ℕ) (x : Header) (bytes rest : List ℕ) (r : Result (Bor (List ℕ)) Stop)
      → InFront (λ t. IsPreferredTitle t x) bytes rest
      → Gives (Completes ord e x) (FailsWithin ord e x (length bytes)) rest r
      → Gives (IsDeterministic ord e) (FailsItem ord e) bytes r
  item_result e x bytes rest (Ok more) f i = item_in_front e x bytes rest more.now f i
  item_result e x bytes rest (Err stop) f i = item_stops e x bytes rest stop.why stop.left f i

-- ---- contents

module _ (ord : Order) where
  pub bytes_result : (e len at : ℕ) (x : Header) (bytes : List ℕ) (r : Result (Bor (List ℕ)) Stop)
      → x ≡ h.Bytes (Some len)
      → MatchResult r (λ rest. InFront (IsOfLength len) bytes rest.now)
      (λ stop. (o : Order) (d at : ℕ) → FailsWithin o d (h.Bytes (Some len)) at bytes stop.why stop.left)
      → Gives (Completes ord e x) (FailsWithin ord e x at) bytes r
  bytes_result e len at x bytes (Ok rest) is i =
      rw is (map_front (IsOfLength len) (Completes ord e (h.Bytes (Some len))) bytes rest.now (λ w b. byte_string b.is)
      i)
  bytes_result e len at x bytes (Err stop) is i = rw is (i ord e at)

  pub text_result : (e len at : ℕ) (x : Header) (bytes : List ℕ) (r : Result (Bor (List ℕ)) Stop)
      → x ≡ h.Text (Some len)
      → MatchResult r (λ rest. InFront (IsTextOfLength len) bytes rest.now)
      (λ stop. (o : Order) (d : ℕ) → FailsWithin o d (h.Text (Some len)) at bytes stop.why stop.left)
      → Gives (Completes ord e x) (FailsWithin ord e x at) bytes r
  text_result e len at x bytes (Ok rest) is i =
      rw is (map_front (IsTextOfLength len) (Completes ord e (h.Text (Some len))) bytes rest.now
      (λ w b. text_string b.is b.text) i)
  text_result e len at x bytes (Err stop) is i = rw is (i ord e)

  pub tag_result : (e d n at : ℕ) (x : Header) (bytes : List ℕ) (r : Result (Bor (List ℕ)) Stop) → x ≡ h.Tag n
      → suc e ≡ d → Gives (IsDeterministic ord e) (FailsItem ord e) bytes r
      → Gives (Completes ord d x) (FailsWithin ord d x at) bytes r
  tag_result e d n at x bytes (Ok rest) is deep i =
      rw (is, ← deep) (map_front (IsDeterministic ord e) (Completes ord (suc e) (h.Tag n)) bytes rest.now (λ w q. tag q)
      i)
  tag_result e d n at x bytes (Err stop) is deep i = rw (is, ← deep) (in_tag i)

  pub array_result : (e d n at : ℕ) (x : Header) (bytes : List ℕ) (r : Result (Bor (List ℕ)) Stop)
      → x ≡ h.Array (Some n)
      → suc e ≡ d → Gives (AreDeterministic ord e n) (FailsItems ord e n) bytes r
      → Gives (Completes ord d x) (FailsWithin ord d x at) bytes r
  array_result e d n at x bytes (Ok rest) is deep i =
      rw (is, ← deep) (map_front (AreDeterministic ord e n) (Completes ord (suc e) (h.Array (Some n))) bytes rest.now
      (λ w q. array q) i)
  array_result e d n at x bytes (Err stop) is deep i = rw (is, ← deep) (in_array i)

  pub map_result : (e d n at : ℕ) (x : Header) (bytes : List ℕ) (r : Result (Bor (List ℕ)) Stop) → x ≡ h.Map (Some n)
      → suc e ≡ d → Gives (AreSortedPairs ord e n []) (FailsPairs ord e n []) bytes r
      → Gives (Completes ord d x) (FailsWithin ord d x at) bytes r
  map_result e d n at x bytes (Ok rest) is deep i =
      rw (is, ← deep) (map_front (AreSortedPairs ord e n []) (Completes ord (suc e) (h.Map (Some n))) bytes rest.now
      (λ w q. pairs q) i)
  map_result e d n at x bytes (Err stop) is deep i = rw (is, ← deep) (in_map i)

  -- No bytes complete the header of an integer, a simple value or a float.
  pub value_in_front : (e : ℕ) (x : Header) (bytes : List ℕ)
      → ((n : ℕ) × (x ≡ h.Positive n)) ⊎ (((n : ℕ) × (x ≡ h.Negative n)) ⊎ (((n : ℕ) × (x ≡ h.Simple n))
      ⊎ ((n : Float) × (x ≡ h.Float n)))) → InFront (Completes ord e x) bytes bytes
  value_in_front e x bytes (inl p) = rw p.1 (record { front = []; is = positive; whole = refl })
  value_in_front e x bytes (inr (inl p)) = rw p.1 (record { front = []; is = negative; whole = refl })
  value_in_front e x bytes (inr (inr (inl p))) = rw p.1 (record { front = []; is = simple; whole = refl })
  value_in_front e x bytes (inr (inr (inr p))) = rw p.1 (record { front = []; is = float; whole = refl })

-- ---- a number of items

-- The items that are due at the beginning of the rest complete all items.
abbrev pub ItemsLead : Order → ℕ → ℕ → List ℕ → ℕ → List ℕ → Type 0
ItemsLead ord e n bytes k rest = Leads (AreDeterministic ord e n) (FailsItems ord e n) bytes (AreDeterministic ord e k)
    (FailsItems ord e k) rest

module _ (ord : Order) where
  items_end : (e : ℕ) (bytes : List ℕ) → InFront (AreDeterministic ord e zero) bytes bytes
  items_end e bytes = record { front = []; is = no_items; whole = refl }

  pub items_done : (e n k : ℕ) (bytes rest : List ℕ) → ItemsLead ord e n bytes k rest → k ≡ 0
      → InFront (AreDeterministic ord e n) bytes rest
  items_done e n k bytes rest l none = l.there rest (rw none (items_end e rest))

  pub items_stop : (e n k : ℕ) (bytes rest : List ℕ) (why : Why) (left : ℕ) → ItemsLead ord e n bytes k rest → 0 < k
      → FailsItem ord e rest why left → FailsItems ord e n bytes why left
  items_stop e n zero bytes rest why left l some s = absurd (omega arith)
  items_stop e n (suc k) bytes rest why left l some s = l.stops why left (in_first s)

  items_there : (e k : ℕ) (rest behind more : List ℕ) → InFront (IsDeterministic ord e) rest behind
      → InFront (AreDeterministic ord e k) behind more → InFront (AreDeterministic ord e (suc k)) rest more
  items_there e k rest behind more f g = record {
    front = f.front ++ g.front;
    is = more_items f.is g.is;
    whole = f.whole ∙ ap (λ (z : List ℕ). f.front ++ z) g.whole ∙ sym (append_assoc f.front g.front more);
  }

  items_behind : (e k : ℕ) (rest behind : List ℕ) (why : Why) (left : ℕ) → InFront (IsDeterministic ord e) rest behind
      → FailsItems ord e k behind why left → FailsItems ord e (suc k) rest why left
  items_behind e k rest behind why left f s =
      subst (λ (z : List ℕ). FailsItems ord e (suc k) z why left) (sym f.whole) (after_first f.is s)

  pub items_more : (e n d k : ℕ) (bytes rest behind : List ℕ) → ItemsLead ord e n bytes d rest → suc k ≡ d
      → InFront (IsDeterministic ord e) rest behind → ItemsLead ord e n bytes k behind
  items_more e n d k bytes rest behind l some f =
      let m : ItemsLead ord e n bytes (suc k) rest = rw some l in
      record {
        there = λ more g. m.there more (items_there e k rest behind more f g);
        stops = λ why left s. m.stops why left (items_behind e k rest behind why left f s);
      }

  run_leads : (e n k m : ℕ) (bytes rest front behind : List ℕ) → ItemsLead ord e n bytes (m + k) rest
      → AreDeterministic ord e m front → rest ≡ front ++ behind → ItemsLead ord e n bytes k behind
  run_leads e n k m bytes rest front behind l no_items z =
      let none : 0 + k ≡ k = omega arith in
      subst (λ (w : List ℕ). ItemsLead ord e n bytes k w) z (rw none at l)
  run_leads e n k m bytes rest front behind l (more_items {count = j} {first = f} {others = o} i is) z =
      let more = items_more e n (suc j + k) (j + k) bytes rest (o ++ behind) l (omega arith)
      (record { front = f; is = i; whole = z ∙ append_assoc f o behind }) in
      run_leads e n k j bytes (o ++ behind) o behind more is refl

  -- Items in a row that are done at once.
  pub items_run : (e n d k len : ℕ) (bytes rest : List ℕ) → ItemsLead ord e n bytes d rest → k ≤ d
      → AreDeterministic ord e (d - k) (take len rest) → ItemsLead ord e n bytes k (drop len rest)
  items_run e n d k len bytes rest l less is =
      let all : d ≡ (d - k) + k = omega (arith, less) in
      run_leads e n k (d - k) bytes rest (take len rest) (drop len rest) (rw all at l) is
      (sym (take-append-drop len rest))

-- ---- a number of pairs

abbrev pub PairsLead : Order → ℕ → ℕ → List ℕ → ℕ → List ℕ → List ℕ → Type 0
PairsLead ord e n bytes k above rest =
    Leads (AreSortedPairs ord e n []) (FailsPairs ord e n []) bytes (AreSortedPairs ord e k above)
    (FailsPairs ord e k above) rest

module _ (ord : Order) where
  pairs_end : (e : ℕ) (above bytes : List ℕ) → InFront (AreSortedPairs ord e zero above) bytes bytes
  pairs_end e above bytes = record { front = []; is = no_pairs; whole = refl }

  pub pairs_done : (e n k : ℕ) (bytes above rest : List ℕ) → PairsLead ord e n bytes k above rest → k ≡ 0
      → InFront (AreSortedPairs ord e n []) bytes rest
  pairs_done e n k bytes above rest l none = l.there rest (rw none (pairs_end e above rest))

  pub key_stops : (e n k : ℕ) (bytes above rest : List ℕ) (why : Why) (left : ℕ) → PairsLead ord e n bytes k above rest
      → 0 < k → FailsItem ord e rest why left → FailsPairs ord e n [] bytes why left
  key_stops e n zero bytes above rest why left l some s = absurd (omega arith)
  key_stops e n (suc k) bytes above rest why left l some s = l.stops why left (in_key s)

  pub order_stops : (e n k : ℕ) (bytes above rest behind : List ℕ) (why : Why) → PairsLead ord e n bytes k above rest
      → 0 < k → InFront (IsDeterministic ord e) rest behind
      → FailsOrder ord above (take (length rest - length behind) rest) why
      → FailsPairs ord e n [] bytes why (length rest)
  order_stops e n zero bytes above rest behind why l some f o = absurd (omega arith)
  order_stops e n (suc k) bytes above rest behind why l some f o =
      let key = front_is (IsDeterministic ord e) rest behind f in
      let s = at_key {count = k} behind f.is (subst (λ (z : List ℕ). FailsOrder ord above z why) key o) in
      l.stops why (length rest)
      (subst (λ (z : List ℕ). FailsPairs ord e (suc k) above z why (length z)) (sym f.whole) s)

  pub value_stops : (e n k : ℕ) (bytes above rest behind : List ℕ) (why : Why) (left : ℕ)
      → PairsLead ord e n bytes k above rest → 0 < k → InFront (IsDeterministic ord e) rest behind
      → Precedes ord above (take (length rest - length behind) rest) → FailsItem ord e behind why left
      → FailsPairs ord e n [] bytes why left
  value_stops e n zero bytes above rest behind why left l some f o s = absurd (omega arith)
  value_stops e n (suc k) bytes above rest behind why left l some f o s =
      let key = front_is (IsDeterministic ord e) rest behind f in
      let u = in_value {count = k} f.is (subst (λ (z : List ℕ). Precedes ord above z) key o) s in
      l.stops why left (subst (λ (z : List ℕ). FailsPairs ord e (suc k) above z why left) (sym f.whole) u)

  pairs_there : (e k : ℕ) (above rest behind last key more : List ℕ) → IsDeterministic ord e key → rest ≡ key ++ behind
      → Precedes ord above key → InFront (IsDeterministic ord e) behind last
      → InFront (AreSortedPairs ord e k key) last more
      → InFront (AreSortedPairs ord e (suc k) above) rest more
  pairs_there e k above rest behind last key more i z o f g = record {
    front = key ++ (f.front ++ g.front);
    is = more_pairs i o f.is g.is;
    whole = z ∙ ap (λ (v : List ℕ). key ++ v)
        (f.whole ∙ ap (λ (v : List ℕ). f.front ++ v) g.whole ∙ sym (append_assoc f.front g.front more))
        ∙ sym (append_assoc key (f.front ++ g.front) more);
  }

  pairs_behind : (e k : ℕ) (above rest behind last key : List ℕ) (why : Why) (left : ℕ) → IsDeterministic ord e key
      → rest ≡ key ++ behind → Precedes ord above key → InFront (IsDeterministic ord e) behind last
      → FailsPairs ord e k key last why left
      → FailsPairs ord e (suc k) above rest why left
  pairs_behind e k above rest behind last key why left i z o f s =
      subst (λ (y : List ℕ). FailsPairs ord e (suc k) above y why left)
      (sym (z ∙ ap (λ (v : List ℕ). key ++ v) f.whole)) (after_pair i o f.is s)

  pub pairs_more : (e n d k : ℕ) (bytes above rest behind last : List ℕ) → PairsLead ord e n bytes d above rest
      → suc k ≡ d
      → InFront (IsDeterministic ord e) rest behind → Precedes ord above (take (length rest - length behind) rest)
      → InFront (IsDeterministic ord e) behind last
      → PairsLead ord e n bytes k (take (length rest - length behind) rest) last
  pairs_more e n d k bytes above rest behind last l some f o g =
      let m : PairsLead ord e n bytes (suc k) above rest = rw some l in
      let key = front_is (IsDeterministic ord e) rest behind f in
      let p = subst (λ (z : List ℕ). Precedes ord above z) key o in
      subst (λ (z : List ℕ). PairsLead ord e n bytes k z last) (sym key) (record {
        there = λ more h. m.there more (pairs_there e k above rest behind last f.front more f.is f.whole p g h);
        stops = λ why left s.
            m.stops why left (pairs_behind e k above rest behind last f.front why left f.is f.whole p g s);
      })

-- ---- no level is left

module _ (ord : Order) where
  pub deep : (e at : ℕ) (x : Header) (bytes : List ℕ) → e ≤ 0
      → ((n : ℕ) × (x ≡ h.Tag n)) ⊎ (((n : ℕ) × (x ≡ h.Array (Some n))) ⊎ ((n : ℕ) × (x ≡ h.Map (Some n))))
      → FailsWithin ord e x at bytes Deep at
  deep zero at x bytes none (inl p) = rw p.1 (too_deep tt)
  deep zero at x bytes none (inr (inl p)) = rw p.1 (too_deep tt)
  deep zero at x bytes none (inr (inr p)) = rw p.1 (too_deep tt)
  deep (suc e) at x bytes none p = absurd (omega arith)
