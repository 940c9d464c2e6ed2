-- The length of the item at the start of bytes.
use Rattle.cbor_deterministic.specs.declared.Order.{Order}
use Rattle.std.proofs.Common.{◌≡◌, ℕ, ◌-◌, ◌+◌, List, length, take, drop, sym, ◌∙◌, ap, subst, arith}
use Rattle.std.proofs.Common.{length-append}
use Rattle.std.proofs.lemmas.List.{take-append-drop}
use Rattle.std.proofs.lemmas.List.{length-take-le}
use Rattle.std.proofs.Common.{Result, Err, refl}
use Rattle.cbor_deterministic.specs.declared.Why.{Why}
use Rattle.cbor_deterministic.specs.declared.Refusal.{Refusal}
use Rattle.cbor_deterministic.proofs.OneFault.{one_refusal}
use Rattle.cbor_deterministic.specs.Deterministic.{IsDeterministic}
use Rattle.cbor_deterministic.specs.Deterministic.{HasDeterministic}
use Rattle.cbor_deterministic.specs.Fronts.{InFront}
use Rattle.cbor_deterministic.specs.Refusals.{FailsItem, HasRefusal}
use Rattle.cbor_deterministic.proofs.FrontLaws.{front_is}
use Rattle.cbor_deterministic.proofs.ItemLaws.{one_item}
use Rattle.cbor_deterministic.proofs.NoneLaws.{item_none}

module _ {ord : Order} where
  pub has_found : (e len : ℕ) (bytes rest : List ℕ) → InFront (IsDeterministic ord e) bytes rest
      → length bytes - length rest ≡ len
      → HasDeterministic ord e bytes len
  has_found e len bytes rest f l =
      let key = front_is (IsDeterministic ord e) bytes rest f in
      record {
        enough = omega arith;
        is_item = subst (λ (n : ℕ). IsDeterministic ord e (take n bytes)) l
            (subst (λ (z : List ℕ). IsDeterministic ord e z) (sym key) f.is);
      }

  pub found_has : (e len : ℕ) (bytes rest : List ℕ) → InFront (IsDeterministic ord e) bytes rest
      → HasDeterministic ord e bytes len
      → length bytes - length rest ≡ len
  found_has e len bytes rest f p =
      let one = one_item e f.front f.is e (take len bytes) rest (drop len bytes) p.is_item
      (sym f.whole ∙ sym (take-append-drop len bytes)) in
      let l : length f.front ≡ len = ap (length {A = ℕ}) one.0 ∙ length-take-le len bytes p.enough in
      omega (arith, ap (length {A = ℕ}) f.whole, length-append f.front rest, l)

  pub none_has : (e left len : ℕ) (bytes : List ℕ) (why : Why) → FailsItem ord e bytes why left
      → HasDeterministic ord e bytes len → ⊥
  none_has e left len bytes why s p =
      item_none e bytes why left s (take len bytes) (drop len bytes) p.is_item (sym (take-append-drop len bytes))

  pub none_found : (e left : ℕ) (bytes rest : List ℕ) (why : Why) → InFront (IsDeterministic ord e) bytes rest
      → FailsItem ord e bytes why left → ⊥
  none_found e left bytes rest why f s = item_none e bytes why left s f.front rest f.is f.whole

same_refusals : (a b : Refusal) → ◌≡◌ {A = Result ℕ Refusal} (Err a) (Err b) → a ≡ b
same_refusals a b e = cc

same_parts : (r : Refusal) (w : Why) (n : ℕ) → r.why ≡ w → r.place ≡ n → r ≡ record { why = w; place = n }
same_parts r w n p q = go r.why w r.place n p q
  where
    go : (v w : Why) (m n : ℕ) → v ≡ w → m ≡ n
        → ◌≡◌ {A = Refusal} (record { why = v; place = m }) (record { why = w; place = n })
    go v w m n p q = cc

one_error : (r : Refusal) (w : Why) (n : ℕ) → r.why ≡ w → r.place ≡ n
    → ◌≡◌ {A = Result ℕ Refusal} (Err r) (Err (record { why = w; place = n }))
one_error r w n p q = ap Err (same_parts r w n p q)

module _ (ord : Order) (e left : ℕ) (bytes : List ℕ) (why : Why) (r : Refusal) (s : FailsItem ord e bytes why left)
    (is : r.why ≡ why) (sum : r.place + left ≡ length bytes) where
  -- The bytes have the refusal that the call returns.
  pub refused_there : (other : Why) (place : ℕ)
      → ◌≡◌ {A = Result ℕ Refusal} (Err r) (Err (record { why = other; place = place }))
      → HasRefusal ord e bytes other place
  refused_there other place q =
      let f = same_refusals r (record { why = other; place = place }) q in
      let w : why ≡ other = sym is ∙ ap (λ (x : Refusal). x.why) f in
      let m : r.place ≡ place = ap (λ (x : Refusal). x.place) f in
      record {
        left = left;
        sum = ap (λ (n : ℕ). n + left) (sym m) ∙ sum;
        fails = subst (λ (v : Why). FailsItem ord e bytes v left) w s;
      }

  pub there_refused : (other : Why) (place : ℕ) → HasRefusal ord e bytes other place
      → ◌≡◌ {A = Result ℕ Refusal} (Err r) (Err (record { why = other; place = place }))
  there_refused other place t =
      let o = one_refusal e bytes why left s bytes other t.left t.fails refl in
      let k = o.1 in
      one_error r other place (is ∙ o.0) (omega (arith, sum, t.sum, k))
