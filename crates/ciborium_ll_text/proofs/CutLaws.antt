-- A text has one full cut at most, and no cut has fewer members.
use Rattle.std.proofs.lemmas.Bool.Decides.{nat_tests}
use Rattle.std.proofs.Common.{◌≡◌, ℕ, ◌+◌, ◌<◌, ◌≤◌, List, [], ◌∷◌, ◌++◌, length, refl, sym, ap, ◌∙◌, subst, inl, inr}
use Rattle.std.proofs.Common.{arith, append_assoc}
use Rattle.std.proofs.lemmas.Bool.{cases_lt}
use Rattle.std.proofs.lemmas.List.{length-append}
use Rattle.std.proofs.lemmas.Str.{encode_same}
use Rattle.std.specs.List.{AllByRecursion}
use Rattle.ciborium_ll_text.specs.Text.{IsCharacter, joined, IsCharacters}
use Rattle.ciborium_ll_text.specs.Cuts.{IsMember, IsNonempty, IsCut, AreFilled, IsFullCut}
use Rattle.ciborium_ll_text.proofs.Lists.{same_front, front_of_front}
use Rattle.ciborium_ll_text.proofs.Utf8Laws.{written}
use Rattle.ciborium_ll_text.proofs.TextLaws.{IsCharacters-append, IsCharacters-rest, IsCharacters-nil}

-- No character begins another character.
pub one_character : (x y r s : List ℕ) → IsCharacter x → IsCharacter y → x ++ r ≡ y ++ s → x ≡ y
one_character x y r s p q e = grind (arith, written, encode_same)

-- The list begins with a character.
pub record Starts (t : List ℕ) : Type 0 where
  pub char : List ℕ
  pub ok : IsCharacter char
  pub rest : List ℕ
  pub is : t ≡ char ++ rest

-- Joined characters that are not empty begin with a character.
starts_at : (t : List ℕ) (cs : List (List ℕ)) → AllByRecursion IsCharacter cs → t ≡ joined cs → 0 < length t → Starts t
starts_at t [] all e l = absurd (omega (arith, ap length e))
starts_at t (c ∷ cs) all e l = record { char = c; ok = all.0; rest = joined cs; is = e }

-- A text that is not empty begins with a character.
pub starts : (t : List ℕ) → IsCharacters t → 0 < length t → Starts t
starts t u l = starts_at t u.characters u.each u.whole l

-- A filled member and a text that begins the members after it are longer than the limit together.
passes : (m : ℕ) (c q rest : List ℕ) (cs : List (List ℕ)) → AllByRecursion (IsMember m) cs
    → AllByRecursion IsNonempty cs
    → AreFilled m (c ∷ cs) → IsCharacters q → 0 < length q → joined cs ≡ q ++ rest → m < length c + length q
passes m c q rest [] each full filled u l e = absurd (omega (arith, ap length e, length-append q rest))
passes m c q rest (d ∷ cs) each full filled u l e =
    let a = starts d each.0.0 full.0 in
    let b = starts q u l in
    let same = one_character a.char b.char (a.rest ++ joined cs) (b.rest ++ rest) a.ok b.ok
    (sym (append_assoc a.char a.rest (joined cs))
    ∙ (ap (λ (z : List ℕ). z ++ joined cs) (sym a.is) ∙
    (e ∙ (ap (λ (z : List ℕ). z ++ rest) b.is ∙ append_assoc b.char b.rest rest))))
    in
    let room = filled.0 a.char a.rest a.ok a.is in
    omega (arith, ap length same, ap length b.is, length-append b.char b.rest)

-- Members stay filled without the first member.
AreFilled-rest : (m : ℕ) (c : List ℕ) (cs : List (List ℕ)) → AreFilled m (c ∷ cs) → AreFilled m cs
AreFilled-rest m c [] f = tt
AreFilled-rest m c (d ∷ cs) f = f.1

-- If `ds` joined are a text and then `cs` joined, `ds` has at least as many members as `cs`.
fewest_behind : (m : ℕ) (cs ds : List (List ℕ)) (r : List ℕ) → IsCharacters r → AllByRecursion (IsMember m) cs
    → AllByRecursion IsNonempty cs → AreFilled m cs → AllByRecursion (IsMember m) ds → r ++ joined cs ≡ joined ds
    → length cs ≤ length ds
fewest_behind m [] ds r u each full filled each' e = omega arith
fewest_behind m (c ∷ cs) [] r u each full filled each' e =
    let l = full.0 in absurd (omega (arith, ap length e, length-append r (c ++ joined cs), length-append c (joined cs)))
fewest_behind m (c ∷ cs) (d ∷ ds) r u each full filled each' e =
    let whole : (r ++ c) ++ joined cs ≡ d ++ joined ds = append_assoc r c (joined cs) ∙ e in
    let rc = IsCharacters-append r c u each.0.0 in
    let f = each'.0.1 in
    elim (cases_lt (length (r ++ c)) (length d)) [
      | inl l ↦
          (let q = front_of_front (r ++ c) d (joined cs) (joined ds) whole (omega arith) in
          let uq = IsCharacters-rest (r ++ c) q.0 rc (subst IsCharacters q.1 each'.0.0) in
          let n = ap length q.1 in
          let past = passes m c q.0 (joined ds) cs each.1 full.1 filled uq
          (omega (arith, n, length-append (r ++ c) q.0)) q.2 in
          absurd (omega (arith, n, past, length-append (r ++ c) q.0, length-append r c)))
      | inr l ↦
          (let q = front_of_front d (r ++ c) (joined ds) (joined cs) (sym whole) l in
          let uq = IsCharacters-rest d q.0 each'.0.0 (subst IsCharacters q.1 rc) in
          let k = fewest_behind m cs ds q.0 uq each.1 full.1 (AreFilled-rest m c cs filled) each'.1 (sym q.2) in
          omega arith)
    ]

-- No cut has fewer members than a full cut of the same text.
pub fewest : (t : List ℕ) (m : ℕ) (cs ds : List (List ℕ)) → IsFullCut t m cs → IsCut t m ds → length cs ≤ length ds
fewest t m cs ds f c = fewest_behind m cs ds [] IsCharacters-nil f.cut.each f.nonempty f.filled c.each
    (sym f.cut.whole ∙ c.whole)

-- ---- a text has one full cut at most

-- Two lists of filled members with the same text are the same.
same_members : (m : ℕ) (cs ds : List (List ℕ)) → AllByRecursion (IsMember m) cs → AllByRecursion IsNonempty cs
    → AreFilled m cs
    → AllByRecursion (IsMember m) ds → AllByRecursion IsNonempty ds → AreFilled m ds → joined cs ≡ joined ds → cs ≡ ds
same_members m [] [] a b f a' b' f' e = refl
same_members m [] (d ∷ ds) a b f a' b' f' e = let l = b'.0 in
    absurd (omega (arith, ap length e, length-append d (joined ds)))
same_members m (c ∷ cs) [] a b f a' b' f' e = let l = b.0 in
    absurd (omega (arith, ap length e, length-append c (joined cs)))
same_members m (c ∷ cs) (d ∷ ds) a b f a' b' f' e =
    let none_longer : length d ≤ length c = not_longer m c cs d (joined ds) a.0.0 a.1 b.1 f a'.0 e in
    let none_longer' : length c ≤ length d = not_longer m d ds c (joined cs) a'.0.0 a'.1 b'.1 f' a.0 (sym e) in
    let h = same_front c d (joined cs) (joined ds) (omega arith) e in
    let heads : c ≡ d = h.0 in
    let tails : cs ≡ ds = same_members m cs ds a.1 b.1 (AreFilled-rest m c cs f) a'.1 b'.1
    (AreFilled-rest m d ds f') h.1 in
    cc (heads, tails)
  where
    not_longer : (m : ℕ) (c : List ℕ) (cs : List (List ℕ)) (d y : List ℕ) → IsCharacters c
        → AllByRecursion (IsMember m) cs
        → AllByRecursion IsNonempty cs → AreFilled m (c ∷ cs) → IsMember m d → c ++ joined cs ≡ d ++ y → length d
        ≤ length c
    not_longer m c cs d y u a b f md e =
        elim (cases_lt (length c) (length d)) [
          | inl l ↦
              (let q = front_of_front c d (joined cs) y e (omega arith) in
              let uq = IsCharacters-rest c q.0 u (subst IsCharacters q.1 md.0) in
              let n = ap length q.1 in
              let past = passes m c q.0 y cs a b f uq (omega (arith, n, length-append c q.0)) q.2 in
              let md1 = md.1 in
              absurd (omega (arith, n, past, length-append c q.0)))
          | inr l ↦ l
        ]

-- A text has one full cut at most.
pub one_full : (t : List ℕ) (m : ℕ) (cs ds : List (List ℕ)) → IsFullCut t m cs → IsFullCut t m ds → cs ≡ ds
one_full t m cs ds f g = grind (arith, nat_tests, same_members)
