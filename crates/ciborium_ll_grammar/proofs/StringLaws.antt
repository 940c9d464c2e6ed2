-- No string begins another string.
use Rattle.std.proofs.Common.{◌≡◌, ℕ, List, [], ◌∷◌, ◌++◌, Option, Some, None, refl, append_assoc, arith}
use Rattle.ciborium_ll_grammar.specs.declared.hdr.Header.TheVariants as h
use Rattle.ciborium_ll_grammar.specs.Title.{IsTitle, Other, alone}
use Rattle.ciborium_ll_grammar.specs.Strings.{Kind, kind_header, IsString, definite, indefinite, AreStrings, none, more}
use Rattle.ciborium_ll_text.proofs.Lists.{same_front}
use Rattle.ciborium_ll_grammar.proofs.TitleLaws.{one_title}

-- If two given lengths are the same option, they are the same number.
pub some_is : (m n : ℕ) → Some m ≡ Some n → m ≡ n
some_is m n e = cc

-- A given length is not the indefinite form.
pub mixed : (n : ℕ) → Some n ≡ None → ⊥
mixed n e = cc

-- The header of a string is no break.
pub not_break : (k : Kind) (o : Option ℕ) → kind_header k o ≡ h.Break → ⊥
not_break k o e = grind arith

-- The byte ff is the title of a break.
pub break_title : IsTitle (0xff ∷ []) h.Break
break_title = alone Other h.Break refl

-- The header of a string gives its kind and its length.
pub same_string : (k k' : Kind) (o o' : Option ℕ) → kind_header k o ≡ kind_header k' o' → (k ≡ k') × (o ≡ o')
same_string k k' o o' e = grind arith

-- Two titles of strings that begin the same bytes are the same, with one kind and one length.
pub string_fronts : (k k' : Kind) (t t' u u' : List ℕ) (o o' : Option ℕ) → IsTitle t (kind_header k o)
    → IsTitle t' (kind_header k' o') → t ++ u ≡ t' ++ u' → (k ≡ k') × (t ≡ t') × (o ≡ o') × (u ≡ u')
string_fronts k k' t t' u u' o o' p p' e = grind (arith, same_string, one_title t t' u u' _ _ p p' e)

-- Two titles of strings of one kind that begin the same bytes are the same.
pub fronts : (k : Kind) (t t' u u' : List ℕ) (o o' : Option ℕ) → IsTitle t (kind_header k o)
    → IsTitle t' (kind_header k o') → t ++ u ≡ t' ++ u' → (t ≡ t') × (o ≡ o') × (u ≡ u')
fronts k t t' u u' o o' p p' e = let r = string_fronts k k t t' u u' o o' p p' e in (r.1, r.2, r.3)

-- No title of a string begins with the byte ff.
pub title_not_break : (k : Kind) (t u v : List ℕ) (o : Option ℕ) → IsTitle t (kind_header k o) → t ++ u ≡ 0xff ∷ v → ⊥
title_not_break k t u v o p e = not_break k o (one_title t (0xff ∷ []) u v _ _ p break_title e).1

-- No string begins with the byte ff.
pub string_not_break : (k : Kind) (w u v : List ℕ) (bs : List (List ℕ)) → IsString k w bs → w ++ u ≡ 0xff ∷ v → ⊥
string_not_break k w u v bs s e = grind (arith, title_not_break, append_assoc)

-- The bytes, the bodies and the rests are the same.
abbrev pub SameString : List ℕ → List ℕ → List (List ℕ) → List (List ℕ) → List ℕ → List ℕ → Type 0
SameString w w' bs bs' v v' = (w ≡ w') × (bs ≡ bs') × (v ≡ v')

mutual
  -- No string begins another string of its kind, and each string has one list of bodies.
  pub one_string : (k : Kind) (w w' v v' : List ℕ) (bs bs' : List (List ℕ)) → IsString k w bs → IsString k w' bs'
      → w ++ v ≡ w' ++ v' → SameString w w' bs bs' v v'
  one_string k w w' v v' bs bs' (definite p) (definite p') e = grind (arith, fronts, append_assoc, same_front)
  one_string k w w' v v' bs bs' (indefinite p q) (indefinite p' q') e =
      grind (arith, fronts, append_assoc, one_strings_then k _ _ v v' bs bs' q q')
  one_string k w w' v v' bs bs' (definite p) (indefinite p' q') e = absurd (grind (arith, fronts, append_assoc))
  one_string k w w' v v' bs bs' (indefinite p q) (definite p') e = absurd (grind (arith, fronts, append_assoc))

  -- If strings and a break begin the same bytes as other strings and a break, both are the same.
  pub one_strings_then : (k : Kind) (w w' v v' : List ℕ) (bs bs' : List (List ℕ)) → AreStrings k w bs
      → AreStrings k w' bs' → w ++ 0xff ∷ v ≡ w' ++ 0xff ∷ v' → SameString w w' bs bs' v v'
  one_strings_then k w w' v v' bs bs' none none e = (refl, refl, cc)
  one_strings_then k w w' v v' bs bs' none (more s' ss') e = absurd (grind (arith, string_not_break, append_assoc))
  one_strings_then k w w' v v' bs bs' (more s ss) none e = absurd (grind (arith, string_not_break, append_assoc))
  one_strings_then k w w' v v' bs bs' (more {rest = y} s ss) (more {rest = y'} s' ss') e =
      let a = one_string k _ _ (y ++ 0xff ∷ v) (y' ++ 0xff ∷ v') _ _ s s' (simp append_assoc at e) in
      let b = one_strings_then k y y' v v' _ _ ss ss' a.2 in
      grind arith
