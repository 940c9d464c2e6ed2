-- Bytes are a spelling of only one value, and no spelling begins another spelling.
use Rattle.std.proofs.Common.{◌≡◌, ℕ, List, [], ◌∷◌, ◌++◌, refl, sym, ap, ◌∙◌, arith, append_assoc}
use Rattle.ciborium_ll_text.specs.Text.{joined}
use Rattle.ciborium_ll_text.proofs.Lists.{same_front}
use Rattle.ciborium_ll_grammar.specs.declared.hdr.Header.{Header}
use Rattle.ciborium_ll_grammar.specs.declared.hdr.Header.TheVariants as h
use Rattle.ciborium_ll_grammar.specs.Strings.{Bytes as OfBytes, Text as OfText}
use Rattle.ciborium_ll_grammar.proofs.TitleLaws.{one_title}
use Rattle.ciborium_ll_grammar.proofs.StringLaws.{one_strings_then, break_title}
use Rattle.cbor_deterministic.specs.Values.{Value, Values, Pairs, Bytes, Text, Array, Map, Tagged, Float}
use Rattle.cbor_deterministic.specs.Values.{item_count, pair_count}
use Rattle.cbor_deterministic.specs.Spellings.{Follows, follows_positive, follows_negative, follows_simple}
use Rattle.cbor_deterministic.specs.Spellings.{follows_float}
use Rattle.cbor_deterministic.specs.Spellings.{follows_bytes, follows_text, follows_tag, follows_array, follows_map}
use Rattle.cbor_deterministic.specs.Spellings.{follows_open_bytes, follows_open_text, follows_open_array}
use Rattle.cbor_deterministic.specs.Spellings.{follows_open_map}
use Rattle.cbor_deterministic.specs.Spellings.{Encodes, encodes, EncodeAll, encode_end, encode_item}
use Rattle.cbor_deterministic.specs.Spellings.{EncodePairs, encode_none, encode_pair}
use Rattle.cbor_deterministic.proofs.FloatFacts.{float_once}

-- The values, the bytes and the rests are the same.
abbrev pub SameValue : Value → Value → List ℕ → List ℕ → List ℕ → List ℕ → Type 0
SameValue a a' w w' v v' = (a ≡ a') × (w ≡ w') × (v ≡ v')

abbrev SameValues : Values → Values → List ℕ → List ℕ → List ℕ → List ℕ → Type 0
SameValues a a' w w' v v' = (a ≡ a') × (w ≡ w') × (v ≡ v')

abbrev SamePairs : Pairs → Pairs → List ℕ → List ℕ → List ℕ → List ℕ → Type 0
SamePairs a a' w w' v v' = (a ≡ a') × (w ≡ w') × (v ≡ v')

break_go : (x : Header) (a : Value) (r : List ℕ) → Follows x a r → x ≡ h.Break → ⊥
break_go x a r f e = grind arith

-- No spelling begins with a break.
value_break : (a : Value) (w u v : List ℕ) → Encodes a w → w ++ u ≡ 0xff ∷ v → ⊥
value_break a w u v (encodes {title = t} {rest = r} {header = x} {value = b} p f) z =
    break_go x b r f (one_title t (0xff ∷ []) (r ++ u) v x h.Break p break_title (sym (append_assoc t r u) ∙ z)).1

mutual
  same_follows : (x : Header) (a : Value) (r : List ℕ) → Follows x a r → (a' : Value) (r' v v' : List ℕ)
      → Follows x a' r' → r ++ v ≡ r' ++ v' → SameValue a a' r r' v v'
  same_follows x a r follows_positive a' r' v v' follows_positive z = (refl, refl, z)
  same_follows x a r follows_negative a' r' v v' follows_negative z = (refl, refl, z)
  same_follows x a r (follows_simple m) a' r' v v' (follows_simple m') z = (refl, refl, z)
  same_follows x a r (follows_float {float = n} f) a' r' v v' (follows_float f') z =
      (ap Float (float_once n _ _ f f'), refl, z)
  same_follows x a r (follows_bytes l) a' r' v v' (follows_bytes l') z =
      let o = same_front r r' v v' (l ∙ sym l') z in (ap Bytes o.0, o.0, o.1)
  same_follows x a r (follows_text l k) a' r' v v' (follows_text l' k') z =
      let o = same_front r r' v v' (l ∙ sym l') z in (ap Text o.0, o.0, o.1)
  same_follows x a r (follows_tag {n = n} q) a' r' v v' (follows_tag q') z =
      let o = one_value _ r q _ r' v v' q' z in (ap (Tagged n) o.0, o.1, o.2)
  same_follows x a r (follows_array l q) a' r' v v' (follows_array l' q') z =
      let o = same_all _ r q _ r' v v' q' (l ∙ sym l') z in (ap Array o.0, o.1, o.2)
  same_follows x a r (follows_map l q) a' r' v v' (follows_map l' q') z =
      let o = same_pairs _ r q _ r' v v' q' (l ∙ sym l') z in (ap Map o.0, o.1, o.2)
  same_follows x a r (follows_open_bytes {strings = w} q) a' r' v v' (follows_open_bytes {strings = w'} q') z =
      let o = one_strings_then OfBytes w w' v v' _ _ q q' (simp append_assoc at z) in
      (ap (λ (b : List (List ℕ)). Bytes (joined b)) o.1, ap (λ (u : List ℕ). u ++ 0xff ∷ []) o.0, o.2)
  same_follows x a r (follows_open_text {strings = w} q k) a' r' v v' (follows_open_text {strings = w'} q' k') z =
      let o = one_strings_then OfText w w' v v' _ _ q q' (simp append_assoc at z) in
      (ap (λ (b : List (List ℕ)). Text (joined b)) o.1, ap (λ (u : List ℕ). u ++ 0xff ∷ []) o.0, o.2)
  same_follows x a r (follows_open_array {bytes = w} q) a' r' v v' (follows_open_array {bytes = w'} q') z =
      let o = ended_all _ w q _ w' v v' q' (simp append_assoc at z) in
      (ap Array o.0, ap (λ (u : List ℕ). u ++ 0xff ∷ []) o.1, o.2)
  same_follows x a r (follows_open_map {bytes = w} q) a' r' v v' (follows_open_map {bytes = w'} q') z =
      let o = ended_pairs _ w q _ w' v v' q' (simp append_assoc at z) in
      (ap Map o.0, ap (λ (u : List ℕ). u ++ 0xff ∷ []) o.1, o.2)

  pub one_value : (a : Value) (w : List ℕ) → Encodes a w → (a' : Value) (w' v v' : List ℕ) → Encodes a' w'
      → w ++ v ≡ w' ++ v' → SameValue a a' w w' v v'
  one_value a w (encodes {title = t} {rest = r} {header = s} p f) a' w' v v'
      (encodes {title = t'} {rest = r'} {header = s'} p' f') z =
      let o = one_title t t' (r ++ v) (r' ++ v') s s' p p' (simp append_assoc at z) in
      let g = same_follows s a r f a' r' v v' (rw (← o.1) at f') o.2 in
      let x = o.0 in
      let y = g.1 in
      (g.0, cc, g.2)

  same_all : (a : Values) (w : List ℕ) → EncodeAll a w → (a' : Values) (w' v v' : List ℕ) → EncodeAll a' w'
      → item_count a ≡ item_count a' → w ++ v ≡ w' ++ v' → SameValues a a' w w' v v'
  same_all a w encode_end a' w' v v' encode_end l z = (refl, refl, z)
  same_all a w encode_end a' w' v v' (encode_item q' qs') l z = absurd (omega arith)
  same_all a w (encode_item q qs) a' w' v v' encode_end l z = absurd (omega arith)
  same_all a w (encode_item {bytes = x} {others = y} q qs) a' w' v v' (encode_item {bytes = x'} {others = y'} q' qs') l
      z =
      let o = one_value _ x q _ x' (y ++ v) (y' ++ v') q' (simp append_assoc at z) in
      let g = same_all _ y qs _ y' v v' qs' (omega arith) o.2 in
      let b = o.0 in
      let c = g.0 in
      let d = o.1 in
      let e = g.1 in
      (cc, cc, g.2)

  ended_all : (a : Values) (w : List ℕ) → EncodeAll a w → (a' : Values) (w' v v' : List ℕ) → EncodeAll a' w'
      → w ++ 0xff ∷ v ≡ w' ++ 0xff ∷ v' → SameValues a a' w w' v v'
  ended_all a w encode_end a' w' v v' encode_end z = (refl, refl, cc)
  ended_all a w encode_end a' w' v v' (encode_item {bytes = x'} {others = y'} q' qs') z =
      absurd (value_break _ x' (y' ++ 0xff ∷ v') v q' (sym (z ∙ append_assoc x' y' (0xff ∷ v'))))
  ended_all a w (encode_item {bytes = x} {others = y} q qs) a' w' v v' encode_end z =
      absurd (value_break _ x (y ++ 0xff ∷ v) v' q (sym (append_assoc x y (0xff ∷ v)) ∙ z))
  ended_all a w (encode_item {bytes = x} {others = y} q qs) a' w' v v' (encode_item {bytes = x'} {others = y'} q' qs')
      z =
      let o = one_value _ x q _ x' (y ++ 0xff ∷ v) (y' ++ 0xff ∷ v') q' (simp append_assoc at z) in
      let g = ended_all _ y qs _ y' v v' qs' o.2 in
      let b = o.0 in
      let c = g.0 in
      let d = o.1 in
      let e = g.1 in
      (cc, cc, g.2)

  same_pairs : (a : Pairs) (w : List ℕ) → EncodePairs a w → (a' : Pairs) (w' v v' : List ℕ) → EncodePairs a' w'
      → pair_count a ≡ pair_count a' → w ++ v ≡ w' ++ v' → SamePairs a a' w w' v v'
  same_pairs a w encode_none a' w' v v' encode_none l z = (refl, refl, z)
  same_pairs a w encode_none a' w' v v' (encode_pair q' m' qs') l z = absurd (omega arith)
  same_pairs a w (encode_pair q m qs) a' w' v v' encode_none l z = absurd (omega arith)
  same_pairs a w (encode_pair {key_bytes = x} {value_bytes = t} {others = y} q m qs) a' w' v v'
      (encode_pair {key_bytes = x'} {value_bytes = t'} {others = y'} q' m' qs') l z =
      let o = one_value _ x q _ x' (t ++ (y ++ v)) (t' ++ (y' ++ v')) q' (simp append_assoc at z) in
      let n = one_value _ t m _ t' (y ++ v) (y' ++ v') m' o.2 in
      let g = same_pairs _ y qs _ y' v v' qs' (omega arith) n.2 in
      let b = o.0 in
      let c = g.0 in
      let d = o.1 in
      let e = g.1 in
      let f = n.0 in
      let i = n.1 in
      (cc, cc, g.2)

  ended_pairs : (a : Pairs) (w : List ℕ) → EncodePairs a w → (a' : Pairs) (w' v v' : List ℕ) → EncodePairs a' w'
      → w ++ 0xff ∷ v ≡ w' ++ 0xff ∷ v' → SamePairs a a' w w' v v'
  ended_pairs a w encode_none a' w' v v' encode_none z = (refl, refl, cc)
  ended_pairs a w encode_none a' w' v v' (encode_pair {key_bytes = x'} {value_bytes = t'} {others = y'} q' m' qs') z =
      absurd (value_break _ x' ((t' ++ y') ++ 0xff ∷ v') v q' (sym (z ∙ append_assoc x' (t' ++ y') (0xff ∷ v'))))
  ended_pairs a w (encode_pair {key_bytes = x} {value_bytes = t} {others = y} q m qs) a' w' v v' encode_none z =
      absurd (value_break _ x ((t ++ y) ++ 0xff ∷ v) v' q (sym (append_assoc x (t ++ y) (0xff ∷ v)) ∙ z))
  ended_pairs a w (encode_pair {key_bytes = x} {value_bytes = t} {others = y} q m qs) a' w' v v'
      (encode_pair {key_bytes = x'} {value_bytes = t'} {others = y'} q' m' qs') z =
      let o = one_value _ x q _ x' (t ++ (y ++ 0xff ∷ v)) (t' ++ (y' ++ 0xff ∷ v')) q' (simp append_assoc at z) in
      let n = one_value _ t m _ t' (y ++ 0xff ∷ v) (y' ++ 0xff ∷ v') m' o.2 in
      let g = ended_pairs _ y qs _ y' v v' qs' n.2 in
      let b = o.0 in
      let c = g.0 in
      let d = o.1 in
      let e = g.1 in
      let f = n.0 in
      let i = n.1 in
      (cc, cc, g.2)
