-- No item begins another item.
use Rattle.std.proofs.Common.{◌≡◌, ℕ, zero, suc, List, [], ◌∷◌, ◌++◌, refl, sym, ◌∙◌, append_assoc, arith}
use Rattle.ciborium_ll_grammar.specs.declared.spelling.Spelling.{Spelling}
use Rattle.ciborium_ll_grammar.specs.declared.hdr.Header.{Header}
use Rattle.ciborium_ll_grammar.specs.declared.hdr.Header.TheVariants as h
use Rattle.ciborium_ll_grammar.specs.Title.{IsTitle}
use Rattle.ciborium_ll_grammar.specs.Strings.{Bytes, Text}
use Rattle.ciborium_ll_grammar.specs.Items.{Completes, positive, negative, float, simple, byte_string, text_string}
use Rattle.ciborium_ll_grammar.specs.Items.{open_bytes, open_text, tag, array, pairs, open_array, open_pairs, AreItems}
use Rattle.ciborium_ll_grammar.specs.Items.{no_items, more_items, IsItem}
use Rattle.ciborium_ll_text.proofs.Lists.{same_front}
use Rattle.ciborium_ll_grammar.proofs.TitleLaws.{one_title}
use Rattle.ciborium_ll_grammar.proofs.StringLaws.{one_strings_then, break_title}

-- The bytes and the rests are the same.
abbrev Same : List ℕ → List ℕ → List ℕ → List ℕ → Type 0
Same w w' v v' = (w ≡ w') × (v ≡ v')

-- No item begins with a break.
title_break : (s : Spelling) (e : ℕ) (t r u v : List ℕ) (x : Header) → IsTitle t x → Completes s e x r
    → t ++ u ≡ 0xff ∷ v
    → ⊥
title_break s e t r u v x p c z = grind (arith, one_title t (0xff ∷ []) u v x h.Break p break_title z)

mutual
  -- No completion of a header begins another completion of the header.
  one_completion : (s s' : Spelling) (e : ℕ) (x : Header) (r : List ℕ) → Completes s e x r → (e' : ℕ) (r' v v' : List ℕ)
      → Completes s' e' x r' → r ++ v ≡ r' ++ v' → Same r r' v v'
  one_completion s s' e x r positive e' r' v v' positive z = (refl, z)
  one_completion s s' e x r negative e' r' v v' negative z = (refl, z)
  one_completion s s' e x r float e' r' v v' float z = (refl, z)
  one_completion s s' e x r simple e' r' v v' simple z = (refl, z)
  one_completion s s' e x r (byte_string l) e' r' v v' (byte_string l') z = same_front r r' v v' (l ∙ sym l') z
  one_completion s s' e x r (text_string l k) e' r' v v' (text_string l' k') z = same_front r r' v v' (l ∙ sym l') z
  one_completion s s' e x r (open_bytes q f) e' r' v v' (open_bytes q' f') z =
      grind (arith, one_strings_then Bytes, append_assoc)
  one_completion s s' e x r (open_text q f k) e' r' v v' (open_text q' f' k') z =
      grind (arith, one_strings_then Text, append_assoc)
  one_completion s s' e x r (tag i) e' r' v v' (tag i') z = same_items s s' _ _ r i _ r' v v' i' z
  one_completion s s' e x r (array i) e' r' v v' (array i') z = same_items s s' _ _ r i _ r' v v' i' z
  one_completion s s' e x r (pairs i) e' r' v v' (pairs i') z = same_items s s' _ _ r i _ r' v v' i' z
  one_completion s s' e x r (open_array {items = w} i) e' r' v v' (open_array {items = w'} i') z =
      grind (arith, ended_items s s' _ _ w i _ _ w' v v' i' (simp append_assoc at z))
  one_completion s s' e x r (open_pairs {items = w} j i) e' r' v v' (open_pairs {items = w'} j' i') z =
      grind (arith, ended_items s s' _ _ w i _ _ w' v v' i' (simp append_assoc at z))

  -- No list of items begins another list of as many items.
  same_items : (s s' : Spelling) (e n : ℕ) (w : List ℕ) → AreItems s e n w → (e' : ℕ) (w' v v' : List ℕ)
      → AreItems s' e' n w' → w ++ v ≡ w' ++ v' → Same w w' v v'
  same_items s s' e n w no_items e' w' v v' no_items z = (refl, z)
  same_items s s' e n w (more_items {rest = r} {others = a} p k c i) e' w' v v'
      (more_items {rest = r'} {others = a'} p' k' c' i') z =
      let o = one_title _ _ (r ++ (a ++ v)) (r' ++ (a' ++ v')) _ _ p p' (simp append_assoc at z) in
      let g = one_completion s s' e _ r c e' r' (a ++ v) (a' ++ v') (rw (← o.1) at c') o.2 in
      let j = same_items s s' e _ a i e' a' v v' i' g.1 in
      grind arith

  -- If items and a break begin the same bytes as other items and a break, both are the same.
  ended_items : (s s' : Spelling) (e n : ℕ) (w : List ℕ) → AreItems s e n w → (e' n' : ℕ) (w' v v' : List ℕ)
      → AreItems s' e' n' w' → w ++ 0xff ∷ v ≡ w' ++ 0xff ∷ v' → Same w w' v v'
  ended_items s s' e n w no_items e' n' w' v v' no_items z = (refl, cc)
  ended_items s s' e n w no_items e' n' w' v v' (more_items p' k' c' i') z =
      absurd (title_break s' e' _ _ _ v _ p' c' (simp append_assoc at (sym z)))
  ended_items s s' e n w (more_items p k c i) e' n' w' v v' no_items z =
      absurd (title_break s e _ _ _ v' _ p c (simp append_assoc at z))
  ended_items s s' e n w (more_items {rest = r} {others = a} p k c i) e' n' w' v v'
      (more_items {rest = r'} {others = a'} p' k' c' i') z =
      let o = one_title _ _ (r ++ (a ++ 0xff ∷ v)) (r' ++ (a' ++ 0xff ∷ v')) _ _ p p' (simp append_assoc at z) in
      let g = one_completion s s' e _ r c e' r' (a ++ 0xff ∷ v) (a' ++ 0xff ∷ v') (rw (← o.1) at c') o.2 in
      let j = ended_items s s' e _ a i e' _ a' v v' i' g.1 in
      grind arith

-- No item begins another item, whatever their depths and spellings.
pub one_item : (s s' : Spelling) (e e' : ℕ) (w w' v v' : List ℕ) → IsItem s e w → IsItem s' e' w' → w ++ v ≡ w' ++ v'
    → Same w w' v v'
one_item s s' e e' w w' v v' i i' z = same_items s s' e (suc zero) w i e' w' v v' i' z
