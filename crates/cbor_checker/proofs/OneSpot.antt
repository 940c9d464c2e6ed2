-- The same bytes lead to one spot.
use Rattle.std.proofs.Common.{◌≡◌, ℕ, List, [], ◌∷◌, ◌++◌, length, refl, sym, ap, subst, ◌∙◌, arith, append-nil}
use Rattle.std.proofs.Common.{length-append}
use Rattle.std.proofs.lemmas.Bool.Decides.{nat_tests}
use Rattle.ciborium_ll_grammar.specs.declared.spelling.Spelling.{Spelling}
use Rattle.ciborium_ll_grammar.specs.declared.hdr.Header.{Header}
use Rattle.ciborium_ll_grammar.specs.Title.{IsTitle, IsCutTitle}
use Rattle.ciborium_ll_grammar.proofs.TitleLaws.{one_title}
use Rattle.ciborium_ll_grammar.proofs.AffixLaws.{title_not_cut}
use Rattle.cbor_checker.specs.declared.phase.Phase.{Phase}
use Rattle.cbor_checker.specs.declared.phase.Phase.TheVariants as p
use Rattle.cbor_checker.specs.Spots.{Spot, at_phase}
use Rattle.cbor_parser.specs.Titles.{NoneTaken, SomeTaken}
use Rattle.cbor_checker.specs.Steps.{with_byte, titled, TitleStep, cut, early, whole, none, StepIn}
use Rattle.cbor_checker.specs.Steps.{Step, IsFed, fresh, more}

whole_cut : (spot : Spot) (x : Header) → IsTitle spot.front x → IsCutTitle spot.front → ⊥
whole_cut spot x q c = title_not_cut spot.front [] x q (subst IsCutTitle (sym (append-nil spot.front)) c)

some_none : (s : Spelling) (front : List ℕ) → SomeTaken s front → NoneTaken s front → ⊥
some_none s front some never =
    let t = front ++ some.0 in
    never some.0 t [] some.1 some.2 some.3 (sym (append-nil t))

title_one : (u a b : Spot) → TitleStep u a → TitleStep u b → a ≡ b
title_one u a b (cut c o may) (cut d o' may') = refl
title_one u a b (cut c o may) (early y d o' all) = absurd (may o.0 o.1 y o.2 (all o.0 o.1 o.2))
title_one u a b (cut c o may) (whole x q g) = absurd (whole_cut u x q c)
title_one u a b (cut c o may) (none never) = absurd (some_none u.allowed u.front o never)
title_one u a b (early y d o all) (cut c o' may) = absurd (may o.0 o.1 y o.2 (all o.0 o.1 o.2))
title_one u a b (early y c o all) (early y' d o' all') =
    ap (λ (z : Phase). at_phase z u) (sym (all o.0 o.1 o.2) ∙ all' o.0 o.1 o.2)
title_one u a b (early y c o all) (whole x q g) = absurd (whole_cut u x q c)
title_one u a b (early y c o all) (none never) = absurd (some_none u.allowed u.front o never)
title_one u a b (whole x q g) (cut c o may) = absurd (whole_cut u x q c)
title_one u a b (whole x q g) (early y c o all) = absurd (whole_cut u x q c)
title_one u a b (whole x q g) (whole x' q' g') =
    ap (λ (z : Header). titled z u) (one_title u.front u.front [] [] x x' q q' refl).1
title_one u a b (whole x q g) (none never) = absurd (never [] u.front [] x q g refl)
title_one u a b (none never) (cut c o may) = absurd (some_none u.allowed u.front o never)
title_one u a b (none never) (early y c o all) = absurd (some_none u.allowed u.front o never)
title_one u a b (none never) (whole x q g) = absurd (never [] u.front [] x q g refl)
title_one u a b (none never) (none never') = refl

step_one : (phase : Phase) (spot a b : Spot) (byte : ℕ) → StepIn phase spot byte a → StepIn phase spot byte b → a ≡ b
step_one p.Title spot a b byte f g = title_one (with_byte byte spot) a b f g
step_one phase spot a b byte f g = grind (arith, nat_tests)

-- An empty list does not end with a byte.
no_last : (xs : List ℕ) (b : ℕ) → [] ≡ xs ++ b ∷ [] → ⊥
no_last xs b e = let l = ap length e in omega (arith, l, length-append xs (b ∷ []))

same_last : (xs ys : List ℕ) (b c : ℕ) → xs ++ b ∷ [] ≡ ys ++ c ∷ [] → (xs ≡ ys) × (b ≡ c)
same_last [] [] b c e = (refl, cc)
same_last [] (y ∷ ys) b c e = absurd (no_last ys c (let tails : [] ≡ ys ++ c ∷ [] = cc in tails))
same_last (x ∷ xs) [] b c e = absurd (no_last xs b (let tails : [] ≡ xs ++ b ∷ [] = cc in tails))
same_last (x ∷ xs) (y ∷ ys) b c e =
    let heads : x ≡ y = cc in
    let tails : xs ++ b ∷ [] ≡ ys ++ c ∷ [] = cc in
    let o = same_last xs ys b c tails in
    (cc (heads, o.0), o.1)

one_from : (s : Spelling) (d : ℕ) (fed : List ℕ) (a : Spot) → IsFed s d fed a → (other : List ℕ) (b : Spot)
    → IsFed s d other b → fed ≡ other → a ≡ b
one_from s d fed a fresh other b fresh e = refl
one_from s d fed a fresh other b (more {bytes = ys} c byte is step) e = absurd (no_last ys c e)
one_from s d fed a (more {bytes = xs} c byte is step) other b fresh e = absurd (no_last xs c (sym e))
one_from s d fed a (more {bytes = xs} {spot = u} c byte is step) other b
    (more {bytes = ys} {spot = v} c' byte' is' step') e =
    let o = same_last xs ys c c' e in
    let spots : v ≡ u = sym (one_from s d xs u is ys v is' o.0) in
    let first : Step u c b = rw spots at (subst (λ (z : ℕ). Step v z b) (sym o.1) step') in
    step_one u.phase u a b c step first

-- The same bytes lead to one spot.
pub one_spot : (s : Spelling) (d : ℕ) (fed : List ℕ) (a b : Spot) → IsFed s d fed a → IsFed s d fed b → a ≡ b
one_spot s d fed a b f g = one_from s d fed a f fed b g refl
