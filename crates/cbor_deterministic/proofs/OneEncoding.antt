-- Values that are the same have one deterministic encoding.
use Rattle.ciborium_ll_grammar.specs.declared.hdr.Header.{Header}
use Rattle.ciborium_ll_grammar.specs.declared.hdr.Header.TheVariants as h
use Rattle.cbor_deterministic.specs.declared.Order.{Order}
use Rattle.std.proofs.Common.{Some, ◌≡◌, ℕ, suc, inl, inr, List, [], ◌∷◌, ◌++◌, length, refl, sym, ap, subst, ◌∙◌}
use Rattle.cbor_deterministic.specs.Values.{Value, Values, Pairs}
use Rattle.cbor_deterministic.specs.Values.{Same, SameAll, EachIn, IsIn, here, there}
use Rattle.cbor_deterministic.specs.Values.{same_unsigned, same_negative, same_bytes, same_text, same_array, same_map}
use Rattle.cbor_deterministic.specs.Values.{same_tagged}
use Rattle.cbor_deterministic.specs.Values.{same_float, same_simple, same_end, same_item, each_none, each_pair}
use Rattle.cbor_deterministic.proofs.FloatFacts.{same_narrow}
use Rattle.cbor_deterministic.specs.Preferred.{IsPreferredTitle}
use Rattle.cbor_deterministic.proofs.TitleRuns.{same_preferred}
use Rattle.cbor_deterministic.proofs.Valued.{unsigned, negative, simple, float, byte_string, text_string, tag, array}
use Rattle.cbor_deterministic.proofs.Valued.{map}
use Rattle.cbor_deterministic.proofs.Valued.{Det, det, DetAll, det_end, det_item, DetPairs, det_none, det_pair}
use Rattle.cbor_deterministic.proofs.Sorted.{Entry, Has, AllIn, Ascends, same_sorted}

-- ---- the entries of a map

module _ {ord : Order} where
  unfoldable pub entries : {n : ℕ} {a : List ℕ} {ps : Pairs} {w : List ℕ} → DetPairs ord n a ps w → List Entry
  entries det_none = []
  entries (det_pair {kw = k} {vw = v} p o q ps) = record { key = k; value = v } ∷ entries ps

abbrev spelled : List Entry → List ℕ
spelled [] = []
spelled (e ∷ es) = e.key ++ (e.value ++ spelled es)

module _ {ord : Order} where
  pub spelled_is : {n : ℕ} {a : List ℕ} {ps : Pairs} {w : List ℕ} (p : DetPairs ord n a ps w) → spelled (entries p) ≡ w
  unfolding entries
  spelled_is det_none = refl
  spelled_is (det_pair {kw = k} {vw = v} p o q ps) = ap (λ (z : List ℕ). k ++ (v ++ z)) (spelled_is ps)

  pub counted : {n : ℕ} {a : List ℕ} {ps : Pairs} {w : List ℕ} (p : DetPairs ord n a ps w) → length (entries p) ≡ n
  unfolding entries
  counted det_none = refl
  counted (det_pair p o q ps) = ap suc (counted ps)

  pub ascends : {n : ℕ} {a : List ℕ} {ps : Pairs} {w : List ℕ} (p : DetPairs ord n a ps w) → Ascends ord a (entries p)
  unfolding entries
  ascends det_none = tt
  ascends (det_pair p o q ps) = (o, ascends ps)

-- ---- the law

abbrev SameList : ℕ → ℕ → List ℕ → List ℕ → Type 0
SameList n n' w w' = (n ≡ n') × (w ≡ w')

joined : (x x' : Header) (t t' r r' : List ℕ) → IsPreferredTitle t x → IsPreferredTitle t' x' → x ≡ x' → r ≡ r'
    → t ++ r ≡ t' ++ r'
joined x x' t t' r r' p p' e f =
    let g = same_preferred t t' x p (subst (λ (y : Header). IsPreferredTitle t' y) (sym e) p') in
    cc

module _ {ord : Order} where
  mutual
    unfolding entries

    pub one_encoding : {v v' : Value} → Same v v' → (w w' : List ℕ) → Det ord v w → Det ord v' w' → w ≡ w'
    one_encoding same_unsigned w w' (det p unsigned) (det p' unsigned) = joined _ _ _ _ _ _ p p' refl refl
    one_encoding same_negative w w' (det p negative) (det p' negative) = joined _ _ _ _ _ _ p p' refl refl
    one_encoding same_simple w w' (det p simple) (det p' simple) = joined _ _ _ _ _ _ p p' refl refl
    one_encoding same_float w w' (det {x = x} p (float f)) (det {x = x'} p' (float f')) =
        joined _ _ _ _ _ _ p p' (ap h.Float (same_narrow _ _ _ p.narrow p'.narrow f f')) refl
    one_encoding same_bytes w w' (det p (byte_string l)) (det p' (byte_string l')) =
        joined _ _ _ _ _ _ p p' (ap (λ (n : ℕ). h.Bytes (Some n)) (sym l ∙ l')) refl
    one_encoding same_text w w' (det p (text_string l k)) (det p' (text_string l' k')) =
        joined _ _ _ _ _ _ p p' (ap (λ (n : ℕ). h.Text (Some n)) (sym l ∙ l')) refl
    one_encoding (same_tagged s) w w' (det p (tag {n = n} q)) (det p' (tag q')) =
        joined _ _ _ _ _ _ p p' refl (one_encoding s _ _ q q')
    one_encoding (same_array s) w w' (det p (array q)) (det p' (array q')) =
        let e = one_run s _ _ _ _ q q' in
        joined _ _ _ _ _ _ p p' (ap (λ (n : ℕ). h.Array (Some n)) e.0) e.1
    one_encoding (same_map s s') w w' (det p (map q)) (det p' (map q')) =
        let es = each_in s q q' in
        let fs = each_in s' q' q in
        let e = same_sorted ord (entries q) (entries q') [] [] (ascends q) (ascends q') es fs in
        joined _ _ _ _ _ _ p p'
        (ap (λ (n : ℕ). h.Map (Some n)) (sym (counted q) ∙ ap (length {A = Entry}) e ∙ counted q'))
        (sym (spelled_is q) ∙ ap spelled e ∙ spelled_is q')

    one_run : {vs vs' : Values} → SameAll vs vs' → (n n' : ℕ) (w w' : List ℕ) → DetAll ord n vs w → DetAll ord n' vs' w'
        → SameList n n' w w'
    one_run same_end n n' w w' det_end det_end = (refl, refl)
    one_run (same_item s ss) n n' w w' (det_item q qs) (det_item q' qs') =
        let e = one_encoding s _ _ q q' in
        let es = one_run ss _ _ _ _ qs qs' in
        let f = es.0 in
        let g = es.1 in
        (ap suc f, cc)

    each_in : {ps ps' : Pairs} → EachIn ps ps' → {n n' : ℕ} {a a' w w' : List ℕ} (q : DetPairs ord n a ps w)
        (q' : DetPairs ord n' a' ps' w') → AllIn (entries q) (entries q')
    each_in each_none det_none q' = tt
    each_in (each_pair i ss) (det_pair k o v qs) q' = (is_in i k v q', each_in ss qs q')

    is_in : {k v : Value} {ps : Pairs} → IsIn k v ps → {n : ℕ} {kw vw a w : List ℕ} → Det ord k kw → Det ord v vw
        → (q : DetPairs ord n a ps w) → Has (record { key = kw; value = vw }) (entries q)
    is_in (here s t) {kw = kw} {vw = vw} dk dv (det_pair {kw = lw} {vw = ww} dl o dw qs) =
        let e = one_encoding s _ _ dk dl in
        let f = one_encoding t _ _ dv dw in
        inl cc
    is_in (there i) dk dv (det_pair dl o dw qs) = inr (is_in i dk dv qs)
