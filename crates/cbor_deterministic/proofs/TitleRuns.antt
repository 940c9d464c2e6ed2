-- Titles of the preferred serialization, and bytes that begin with no such title.
use Rattle.std.proofs.Common.{◌≡◌, ℕ, ◌<◌, inl, inr, List, [], ◌∷◌, ◌++◌, length, refl, sym, ◌∙◌, subst, arith}
use Rattle.std.proofs.Common.{Bool, true, false, IsTrue}
use Rattle.ciborium_ll_grammar.specs.declared.hdr.Minor.{Minor}
use Rattle.ciborium_ll_grammar.specs.declared.hdr.Title.{Title}
use Rattle.ciborium_ll_grammar.specs.Parts.{IsParts, refused_when_strict, minor_code, parts_bytes, title_bytes}
use Rattle.ciborium_ll_grammar.specs.Title.{IsNeverOpen}
use Rattle.ciborium_ll_grammar.proofs.LongerLaws.{parts_taken, parts_refused}
use Rattle.cbor_deterministic.specs.declared.Why.TheVariants.{NoTitle, NotShortest, Indefinite, NoSimple}
use Rattle.ciborium_ll_grammar.specs.declared.hdr.Header.{Header}
use Rattle.ciborium_ll_grammar.specs.Title.{IsTitle, shortest_title, IsInRange, IsSmallSimple, IsCutTitle}
use Rattle.ciborium_ll_grammar.specs.Title.{BeginsRefused}
use Rattle.ciborium_ll_grammar.specs.Title.{numbered, alone}
use Rattle.ciborium_ll_grammar.proofs.TitleLaws.{one_title, title_refused, title_in_range, IsTitle-shortest, Same}
use Rattle.ciborium_ll_grammar.proofs.AffixLaws.{title_not_cut, refused_affix}
use Rattle.ciborium_ll_grammar.proofs.AloneLaws.{title_some}
use Rattle.cbor_deterministic.specs.declared.Why.{Why}
use Rattle.cbor_deterministic.specs.Preferred.{IsWide, IsIndefinite, IsPreferredTitle}
use Rattle.cbor_deterministic.specs.Refusals.{IsLonger, FailsTitle, cut_title, no_title, longer, indefinite}
use Rattle.cbor_deterministic.specs.Refusals.{small_simple}

-- ---- preferred titles

-- A title that fails whatever follows it fails in the bytes that begin with it.
pub fails_front : (bytes title rest : List ℕ) (why : Why) → bytes ≡ title ++ rest
    → ((more : List ℕ) → FailsTitle (title ++ more) why) → FailsTitle bytes why
fails_front bytes title rest why whole fails = subst (λ (z : List ℕ). FailsTitle z why) (sym whole) (fails rest)

-- No preferred title begins another one, and each has one header.
pub one_preferred : (t t' v v' : List ℕ) (x x' : Header) → IsPreferredTitle t x → IsPreferredTitle t' x'
    → t ++ v ≡ t' ++ v' → Same t t' x x' v v'
one_preferred t t' v v' x x' p p' z = one_title t t' v v' x x' p.is_title p'.is_title z

-- A preferred title has a first byte.
pub preferred_some : (t : List ℕ) (x : Header) → IsPreferredTitle t x → 0 < length t
preferred_some t x p = title_some t x p.is_title

-- A header has one preferred title.
pub same_preferred : (t t' : List ℕ) (x : Header) → IsPreferredTitle t x → IsPreferredTitle t' x → t ≡ t'
same_preferred t t' x p p' = p.strict.shortest ∙ sym p'.strict.shortest

pub preferred_in_range : (t : List ℕ) (x : Header) → IsPreferredTitle t x → IsInRange x
preferred_in_range t x p = title_in_range t x p.is_title

-- The shortest title of a header is its preferred title, if the header has one.
pub shortest_preferred : (x : Header) → IsInRange x → (IsSmallSimple x → ⊥) → (IsIndefinite x → ⊥) → (IsWide x → ⊥)
    → IsPreferredTitle (shortest_title x) x
shortest_preferred x r s d w = record {
  is_title = IsTitle-shortest x r;
  strict = record { shortest = refl; meant = s };
  definite = d;
  narrow = w;
}

-- ---- bytes that begin with no preferred title

-- A title of the indefinite form is the shortest one.
indefinite_shortest : (t : List ℕ) (x : Header) → IsTitle t x → IsIndefinite x → t ≡ shortest_title x
indefinite_shortest t x (numbered m s n p) d = grind arith
indefinite_shortest t x (alone m y o) d = grind arith

-- A header of an indefinite form and a break have no wide float.
indefinite_narrow : (x : Header) → IsIndefinite x → IsWide x → ⊥
indefinite_narrow x d w = grind arith

-- The title of a simple value from 24 to 31 is the shortest title.
small_shortest : (t : List ℕ) (x : Header) → IsTitle t x → IsSmallSimple x → t ≡ shortest_title x
small_shortest t x (numbered m s n p) d = grind arith
small_shortest t x (alone m y o) d = grind arith

small_narrow : (x : Header) → IsSmallSimple x → IsWide x → ⊥
small_narrow x d w = grind arith

small_definite : (x : Header) → IsSmallSimple x → IsIndefinite x → ⊥
small_definite x d w = grind arith

-- The shortest title is not longer, if its header has no wide float.
not_longer : (t : List ℕ) (x : Header) → t ≡ shortest_title x → (IsWide x → ⊥) → IsLonger t x → ⊥
not_longer t x e w (inl n) = n e
not_longer t x e w (inr v) = w v

same_longer : (t t' : List ℕ) (x x' : Header) → t ≡ t' → x ≡ x' → IsLonger t x → IsLonger t' x'
same_longer t t' x x' e f l = subst (λ (z : Header). IsLonger t' z) f (subst (λ (w : List ℕ). IsLonger w x) e l)

-- No preferred title begins bytes that fail as one.
pub title_none : (b : List ℕ) (why : Why) → FailsTitle b why → (t v : List ℕ) (x : Header) → IsPreferredTitle t x
    → b ≡ t ++ v → ⊥
title_none b why (cut_title c) t v x p z = title_not_cut t v x p.is_title (subst IsCutTitle z c)
title_none b why (no_title r) t v x p z = title_refused t v x p.is_title (subst BeginsRefused z r)
title_none b why (longer {title = u} {header = y} rest q l) t v x p z =
    let o = one_title u t rest v y x q p.is_title z in
    not_longer t x p.strict.shortest p.narrow (same_longer u t y x o.0 o.1 l)
title_none b why (indefinite {title = u} {header = y} rest q d) t v x p z =
    let o = one_title u t rest v y x q p.is_title z in p.definite (subst IsIndefinite o.1 d)
title_none b why (small_simple {title = u} {header = y} rest q d) t v x p z =
    let o = one_title u t rest v y x q p.is_title z in p.strict.meant (subst IsSmallSimple o.1 d)

-- Bytes that end before a title or within it do not begin with a byte that begins no title.
cut_or_refused : (b : List ℕ) → IsCutTitle b → BeginsRefused b → ⊥
cut_or_refused [] c r = r
cut_or_refused (x ∷ b) c r = let e = refused_affix x r in omega arith

-- Bytes fail as a title for one reason.
pub title_once : (b b' : List ℕ) (w w' : Why) → FailsTitle b w → FailsTitle b' w' → b ≡ b' → w ≡ w'
title_once b b' w w' (cut_title c) (cut_title c') z = refl
title_once b b' w w' (cut_title c) (no_title r') z = absurd (cut_or_refused b' (subst IsCutTitle z c) r')
title_once b b' w w' (cut_title c) (longer {title = t'} {header = x'} v' p' d') z =
    absurd (title_not_cut t' v' x' p' (subst IsCutTitle z c))
title_once b b' w w' (cut_title c) (indefinite {title = t'} {header = x'} v' p' d') z =
    absurd (title_not_cut t' v' x' p' (subst IsCutTitle z c))
title_once b b' w w' (cut_title c) (small_simple {title = t'} {header = x'} v' p' d') z =
    absurd (title_not_cut t' v' x' p' (subst IsCutTitle z c))
title_once b b' w w' (no_title r) (cut_title c') z = absurd (cut_or_refused b' c' (subst BeginsRefused z r))
title_once b b' w w' (no_title r) (no_title r') z = refl
title_once b b' w w' (no_title r) (longer {title = t'} {header = x'} v' p' d') z =
    absurd (title_refused t' v' x' p' (subst BeginsRefused z r))
title_once b b' w w' (no_title r) (indefinite {title = t'} {header = x'} v' p' d') z =
    absurd (title_refused t' v' x' p' (subst BeginsRefused z r))
title_once b b' w w' (no_title r) (small_simple {title = t'} {header = x'} v' p' d') z =
    absurd (title_refused t' v' x' p' (subst BeginsRefused z r))
title_once b b' w w' (longer {title = t} {header = x} v p d) (cut_title c') z =
    absurd (title_not_cut t v x p (subst IsCutTitle (sym z) c'))
title_once b b' w w' (longer {title = t} {header = x} v p d) (no_title r') z =
    absurd (title_refused t v x p (subst BeginsRefused (sym z) r'))
title_once b b' w w' (longer {title = t} {header = x} v p d) (longer {title = t'} {header = x'} v' p' d') z = refl
title_once b b' w w' (longer {title = t} {header = x} v p d) (indefinite {title = t'} {header = x'} v' p' d') z =
    let o = one_title t t' v v' x x' p p' z in absurd (not_longer t' x' (indefinite_shortest t' x' p' d')
    (indefinite_narrow x' d') (same_longer t t' x x' o.0 o.1 d))
title_once b b' w w' (longer {title = t} {header = x} v p d) (small_simple {title = t'} {header = x'} v' p' d') z =
    let o = one_title t t' v v' x x' p p' z in absurd (not_longer t' x' (small_shortest t' x' p' d')
    (small_narrow x' d') (same_longer t t' x x' o.0 o.1 d))
title_once b b' w w' (indefinite {title = t} {header = x} v p d) (cut_title c') z =
    absurd (title_not_cut t v x p (subst IsCutTitle (sym z) c'))
title_once b b' w w' (indefinite {title = t} {header = x} v p d) (no_title r') z =
    absurd (title_refused t v x p (subst BeginsRefused (sym z) r'))
title_once b b' w w' (indefinite {title = t} {header = x} v p d) (longer {title = t'} {header = x'} v' p' d') z =
    let o = one_title t t' v v' x x' p p' z in absurd (not_longer t x (indefinite_shortest t x p d)
    (indefinite_narrow x d) (same_longer t' t x' x (sym o.0) (sym o.1) d'))
title_once b b' w w' (indefinite {title = t} {header = x} v p d) (indefinite {title = t'} {header = x'} v' p' d') z =
    refl
title_once b b' w w' (indefinite {title = t} {header = x} v p d) (small_simple {title = t'} {header = x'} v' p' d') z =
    let o = one_title t t' v v' x x' p p' z in absurd (small_definite x' d' (subst IsIndefinite o.1 d))
title_once b b' w w' (small_simple {title = t} {header = x} v p d) (cut_title c') z =
    absurd (title_not_cut t v x p (subst IsCutTitle (sym z) c'))
title_once b b' w w' (small_simple {title = t} {header = x} v p d) (no_title r') z =
    absurd (title_refused t v x p (subst BeginsRefused (sym z) r'))
title_once b b' w w' (small_simple {title = t} {header = x} v p d) (longer {title = t'} {header = x'} v' p' d') z =
    let o = one_title t t' v v' x x' p p' z in absurd (not_longer t x (small_shortest t x p d) (small_narrow x d)
    (same_longer t' t x' x (sym o.0) (sym o.1) d'))
title_once b b' w w' (small_simple {title = t} {header = x} v p d) (indefinite {title = t'} {header = x'} v' p' d') z =
    let o = one_title t t' v v' x x' p p' z in absurd (small_definite x d (subst IsIndefinite (sym o.1) d'))
title_once b b' w w' (small_simple {title = t} {header = x} v p d) (small_simple {title = t'} {header = x'} v' p' d')
    z = refl

-- ---- the meaning of the parts of a title

-- The proposition of a test holds if the test is true.
pub told : {P : Type 0} (r : Bool) → r ≡ true → (IsTrue r → P) × (P → IsTrue r) → P
told r e i = i.0 e

pub not_both_ways : (r : Bool) → r ≡ false → IsTrue r → ⊥
not_both_ways r e f = cc

-- The proposition of a test fails if the test is false.
pub untold : {P : Type 0} (r : Bool) → r ≡ false → (IsTrue r → P) × (P → IsTrue r) → P → ⊥
untold r e i p = not_both_ways r e (i.1 p)

pub refused_fails : (b rest : List ℕ) → BeginsRefused b → FailsTitle (b ++ rest) NoTitle
refused_fails [] rest r = absurd r
refused_fails (x ∷ b) rest r = no_title r

never_refused : (major : ℕ) (minor : Minor) → major < 8 → minor_code minor ≡ 31 → IsNeverOpen major
    → BeginsRefused (parts_bytes major minor)
never_refused major minor l c n = inr (grind (arith, n))

module _ (t : Title) (b rest : List ℕ) (q : IsParts t) (is : title_bytes t ≡ b) where
  pub never_fails : minor_code t.minor ≡ 31 → IsNeverOpen t.major → FailsTitle (b ++ rest) NoTitle
  never_fails c n = refused_fails b rest (subst BeginsRefused is (never_refused t.major t.minor q.major c n))

  pub small_fails : (x : Header) → IsTitle (title_bytes t) x → IsSmallSimple x → FailsTitle (b ++ rest) NoSimple
  small_fails x p s = small_simple rest (subst (λ (z : List ℕ). IsTitle z x) is p) s

  pub loose_fails : (x : Header) → IsTitle (title_bytes t) x → refused_when_strict t.major t.minor ≡ true
      → (IsSmallSimple x → ⊥) → FailsTitle (b ++ rest) NotShortest
  loose_fails x p l n =
      subst (λ (z : List ℕ). FailsTitle (z ++ rest) NotShortest) is
      (longer rest p (inl (λ s. parts_refused t.major t.minor x q.major q.minor p l
      (record { shortest = s; meant = n }))))

  pub wide_fails : (x : Header) → IsTitle (title_bytes t) x → IsWide x → FailsTitle (b ++ rest) NotShortest
  wide_fails x p w = longer rest (subst (λ (z : List ℕ). IsTitle z x) is p) (inr w)

  pub indefinite_fails : (x : Header) → IsTitle (title_bytes t) x → IsIndefinite x → FailsTitle (b ++ rest) Indefinite
  indefinite_fails x p d = indefinite rest (subst (λ (z : List ℕ). IsTitle z x) is p) d

  pub preferred_parts : (x : Header) → IsTitle (title_bytes t) x → refused_when_strict t.major t.minor ≡ false
      → (IsWide x → ⊥) → (IsIndefinite x → ⊥) → IsPreferredTitle b x
  preferred_parts x p l w d =
      subst (λ (z : List ℕ). IsPreferredTitle z x) is (record {
        is_title = p;
        strict = parts_taken t.major t.minor x q.major q.minor p l;
        definite = d;
        narrow = w;
      })
