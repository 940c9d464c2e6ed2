-- Sequences of items in the deterministic encoding, and the one verdict on some bytes.
use Rattle.std.proofs.Common.{◌≡◌, ◌≤◌, ◌<◌, ◌+◌, ℕ, suc, List, [], ◌++◌, length, take, drop, arith}
use Rattle.std.proofs.Common.{length-append, length-drop, append-nil, append_assoc, refl, sym, ◌∙◌, ap, subst, ◌↔◌}
use Rattle.std.proofs.lemmas.List.{length-take-le, take-append-drop}
use Rattle.std.proofs.Math.Seq.{take-add, take-append_seam}
use Rattle.cbor_deterministic.specs.declared.Order.{Order}
use Rattle.cbor_deterministic.specs.declared.Refusal.{Refusal}
use Rattle.cbor_deterministic.specs.declared.Why.{Why}
use Rattle.cbor_deterministic.specs.Deterministic.{AreDeterministic, HasDeterministic, IsDeterministic}
use Rattle.cbor_deterministic.specs.Deterministic.{item, more_items, no_items}
use Rattle.cbor_deterministic.specs.Refusals.{HasRefusal}
use Rattle.cbor_deterministic.proofs.TitleRuns.{preferred_some}
use Rattle.cbor_deterministic.proofs.ItemLaws.{one_item}
use Rattle.cbor_deterministic.proofs.NoneLaws.{item_none}
use Rattle.cbor_deterministic.proofs.OneFault.{one_place}
use Rattle.tool_verdicts.specs.declared.verdict.Verdict.{Verdict}
use Rattle.tool_verdicts.specs.declared.verdict.Verdict.TheVariants as v
use Rattle.tool_verdicts.specs.Deterministic.{FindsEncodings, FindsEncoding, StopsAfter, are_items, is_followed}
use Rattle.tool_verdicts.specs.Deterministic.{is_item, is_refused, stops}

-- No item begins the bytes.
abbrev NoneFrom : Order → ℕ → List ℕ → Type 0
NoneFrom ord e ahead = (w rest : List ℕ) → IsDeterministic ord e w → ahead ≡ w ++ rest → ⊥

module _ {ord : Order} where
  -- Each item has a byte.
  pub item_some : (e : ℕ) (w : List ℕ) → IsDeterministic ord e w → 0 < length w
  item_some e w (item {title = t} {rest = r} {header = x} p c) =
      omega (arith, preferred_some t x p, length-append t r)

  -- One more item after some items.
  pub one_more : (e n : ℕ) (w last : List ℕ) → AreDeterministic ord e n w → IsDeterministic ord e last
      → AreDeterministic ord e (suc n) (w ++ last)
  one_more e n w last no_items i =
      subst (λ (z : List ℕ). AreDeterministic ord e (suc 0) z) (append-nil last) (more_items i no_items)
  one_more e n w last (more_items {count = m} {first = f} {others = o} p q) i =
      subst (λ (z : List ℕ). AreDeterministic ord e (suc (suc m)) z) (sym (append_assoc f o last))
      (more_items p (one_more e m o last q i))

  none_at_end : (e : ℕ) → NoneFrom ord e []
  none_at_end e w rest i z = absurd (omega (arith, item_some e w i, length-append w rest, ap (length {A = ℕ}) z))

  none_refused : (e : ℕ) (ahead : List ℕ) (why : Why) (at : ℕ) → HasRefusal ord e ahead why at → NoneFrom ord e ahead
  none_refused e ahead why at r w rest i z = item_none e ahead why r.left r.fails w rest i z

  -- Bytes have one split into items and bytes that begin with none.
  same_run : (e n : ℕ) (w : List ℕ) → AreDeterministic ord e n w → (m : ℕ) (w' a a' : List ℕ)
      → AreDeterministic ord e m w' → NoneFrom ord e a → NoneFrom ord e a' → w ++ a ≡ w' ++ a' → (n ≡ m) × (a ≡ a')
  same_run e n w no_items m w' a a' no_items none none' z = (refl, z)
  same_run e n w no_items m w' a a' (more_items {first = f} {others = o} p q) none none' z =
      absurd (none f (o ++ a') p (z ∙ append_assoc f o a'))
  same_run e n w (more_items {first = f} {others = o} p q) m w' a a' no_items none none' z =
      absurd (none' f (o ++ a) p (sym z ∙ append_assoc f o a))
  same_run e n w (more_items {count = k} {first = f} {others = o} p q) m w' a a'
      (more_items {count = k'} {first = f'} {others = o'} p' q') none none' z =
      let one = one_item e f p e f' (o ++ a) (o' ++ a') p' (sym (append_assoc f o a) ∙ z ∙ append_assoc f' o' a') in
      let more = same_run e k o q k' o' a a' q' none none' one.1 in
      (ap suc more.0, more.1)

-- ---- the one verdict

same_refusal : (r s : Refusal) → r.why ≡ s.why → r.place ≡ s.place → r ≡ s
same_refusal r s p q = go r.why s.why r.place s.place p q
  where
    go : (w w' : Why) (m n : ℕ) → w ≡ w' → m ≡ n
        → ◌≡◌ {A = Refusal} (record { why = w; place = m }) (record { why = w'; place = n })
    go w w' m n p q = cc

module _ (ord : Order) (e : ℕ) (bytes : List ℕ) where
  same_stop : (n m : ℕ) (r s : Refusal) → StopsAfter ord e n bytes r → StopsAfter ord e m bytes s → r ≡ s
  same_stop n m r s p q =
      let z = same_run e n p.before p.are m q.before p.ahead q.ahead q.are
      (none_refused e p.ahead r.why p.at p.refused) (none_refused e q.ahead s.why q.at q.refused) (sym p.is ∙ q.is) in
      let one = one_place ord e q.at p.at q.ahead s.why r.why q.refused
      (subst (λ (x : List ℕ). HasRefusal ord e x r.why p.at) z.1 p.refused) in
      let l : length p.before ≡ length q.before = omega (
        arith,
        length-append p.before p.ahead,
        length-append q.before q.ahead,
        ap (length {A = ℕ}) (sym p.is ∙ q.is),
        ap (length {A = ℕ}) z.1,
      ) in
      same_refusal r s (sym one.0) (omega (arith, p.place, q.place, l, one.1))

  no_stop : (n m : ℕ) (r : Refusal) → AreDeterministic ord e n bytes → StopsAfter ord e m bytes r → ⊥
  no_stop n m r p q =
      let z = same_run e n bytes p m q.before [] q.ahead q.are (none_at_end e)
      (none_refused e q.ahead r.why q.at q.refused) (append-nil bytes ∙ q.is) in
      q.some (sym z.1)

  -- Bytes have one verdict.
  pub all_once : (a b : Verdict) → FindsEncodings ord e bytes a → FindsEncodings ord e bytes b → a ≡ b
  all_once a b (are_items {items = n} p) (are_items {items = m} q) =
      let z = same_run e n bytes p m bytes [] [] q (none_at_end e) (none_at_end e) refl in
      ap (λ (k : ℕ). v.Well k (length bytes)) z.0
  all_once a b (are_items p) (stops q) = absurd (no_stop _ _ _ p q)
  all_once a b (stops p) (are_items q) = absurd (no_stop _ _ _ q p)
  all_once a b (stops {refusal = r} p) (stops {refusal = s} q) = ap v.Refused (same_stop _ _ r s p q)

  seen : (len : ℕ) → HasDeterministic ord e bytes len → bytes ≡ take len bytes ++ drop len bytes
  seen len h = sym (take-append-drop len bytes)

  all_seen : bytes ≡ bytes ++ []
  all_seen = sym (append-nil bytes)

  not_followed : (place : ℕ) → IsDeterministic ord e bytes → HasDeterministic ord e bytes place
      → place < length bytes → ⊥
  not_followed place p h less =
      let one = one_item e bytes p e (take place bytes) [] (drop place bytes) h.is_item (sym all_seen ∙ seen place h) in
      omega (arith, less, length-take-le place bytes h.enough, ap (length {A = ℕ}) one.0)

  not_refused : (r : Refusal) (w rest : List ℕ) → HasRefusal ord e bytes r.why r.place → IsDeterministic ord e w
      → bytes ≡ w ++ rest → ⊥
  not_refused r w rest h p is = item_none e bytes r.why h.left h.fails w rest p is

  same_end : (p q : ℕ) → HasDeterministic ord e bytes p → HasDeterministic ord e bytes q → p ≡ q
  same_end p q h k =
      let one = one_item e (take p bytes) h.is_item e (take q bytes) (drop p bytes) (drop q bytes) k.is_item
      (sym (seen p h) ∙ seen q k) in
      omega (
        arith,
        length-take-le p bytes h.enough,
        length-take-le q bytes k.enough,
        ap (length {A = ℕ}) one.0,
      )

  -- Bytes have one verdict if one item is wanted.
  pub one_once : (a b : Verdict) → FindsEncoding ord e bytes a → FindsEncoding ord e bytes b → a ≡ b
  one_once a b (is_item p) (is_item q) = refl
  one_once a b (is_item p) (is_followed h less) = absurd (not_followed _ p h less)
  one_once a b (is_item p) (is_refused {refusal = r} h) = absurd (not_refused r bytes [] h p all_seen)
  one_once a b (is_followed h less) (is_item p) = absurd (not_followed _ p h less)
  one_once a b (is_followed {place = m} h less) (is_followed {place = n} k more) = ap v.More (same_end m n h k)
  one_once a b (is_followed {place = m} h less) (is_refused {refusal = r} k) =
      absurd (not_refused r (take m bytes) (drop m bytes) k h.is_item (seen m h))
  one_once a b (is_refused {refusal = r} h) (is_item p) = absurd (not_refused r bytes [] h p all_seen)
  one_once a b (is_refused {refusal = r} k) (is_followed {place = m} h less) =
      absurd (not_refused r (take m bytes) (drop m bytes) k h.is_item (seen m h))
  one_once a b (is_refused {refusal = r} h) (is_refused {refusal = s} k) =
      let one = one_place ord e r.place s.place bytes r.why s.why h k in
      ap v.Refused (same_refusal r s one.0 one.1)

  -- The verdict on one item is the one that is found.
  pub one_exactly : (a : Verdict) → FindsEncoding ord e bytes a → (b : Verdict) → (a ≡ b ↔ FindsEncoding ord e bytes b)
  one_exactly a found b = (λ same. subst (λ (x : Verdict). FindsEncoding ord e bytes x) same found, one_once a b found)

  -- The verdict on a sequence is the one that is found.
  pub all_exactly : (a : Verdict) → FindsEncodings ord e bytes a → (b : Verdict)
      → (a ≡ b ↔ FindsEncodings ord e bytes b)
  all_exactly a found b = (λ same. subst (λ (x : Verdict). FindsEncodings ord e bytes x) same found, all_once a b found)

  -- An item that takes all bytes.
  pub one_whole : (len : ℕ) → HasDeterministic ord e bytes len → length bytes ≤ len
      → FindsEncoding ord e bytes (v.Well 1 len)
  one_whole len h all =
      let same : length bytes ≡ len = omega (arith, h.enough) in
      let whole : take len bytes ≡ bytes = ap (λ (n : ℕ). take n bytes) (sym same)
      ∙ ap (take (length bytes)) all_seen ∙ take-append_seam bytes [] in
      subst (λ (n : ℕ). FindsEncoding ord e bytes (v.Well 1 n)) same
      (is_item (subst (λ (z : List ℕ). IsDeterministic ord e z) whole h.is_item))

  -- One more item after the items of a front.
  pub next_item : (n start len : ℕ) → AreDeterministic ord e n (take start bytes)
      → HasDeterministic ord e (drop start bytes) len → AreDeterministic ord e (n + 1) (take (start + len) bytes)
  next_item n start len are h =
      let count : suc n ≡ n + 1 = omega arith in
      subst (λ (k : ℕ). AreDeterministic ord e k (take (start + len) bytes)) count
      (subst (λ (z : List ℕ). AreDeterministic ord e (suc n) z) (sym (take-add start len bytes))
      (one_more e n (take start bytes) (take len (drop start bytes)) are h.is_item))

  -- An item has a byte, by its length.
  pub item_len : (start len : ℕ) → HasDeterministic ord e (drop start bytes) len → 0 < len
  item_len start len h = omega (
    arith,
    item_some e (take len (drop start bytes)) h.is_item,
    length-take-le len (drop start bytes) h.enough,
  )

  -- A refusal after the items of a front.
  pub stops_there : (n start at place : ℕ) (why : Why) → AreDeterministic ord e n (take start bytes)
      → start < length bytes → HasRefusal ord e (drop start bytes) why at → place ≡ start + at
      → FindsEncodings ord e bytes (v.Refused (record { why = why; place = place }))
  stops_there n start at place why are less h is = stops {items = n} (record {
    before = take start bytes;
    ahead = drop start bytes;
    are = are;
    is = sym (take-append-drop start bytes);
    some = λ none. omega (arith, less, length-drop start bytes, ap (length {A = ℕ}) none);
    at = at;
    refused = h;
    place = omega (arith, is, length-take-le start bytes (omega (arith, less)));
  })

  -- The items of a front that is all bytes.
  pub all_whole : (n start : ℕ) → AreDeterministic ord e n (take start bytes) → start ≡ length bytes
      → FindsEncodings ord e bytes (v.Well n start)
  all_whole n start are is =
      let whole : take start bytes ≡ bytes = ap (λ (n : ℕ). take n bytes) is
      ∙ ap (take (length bytes)) all_seen ∙ take-append_seam bytes [] in
      subst (λ (m : ℕ). FindsEncodings ord e bytes (v.Well n m)) (sym is)
      (are_items (subst (λ (z : List ℕ). AreDeterministic ord e n z) whole are))
