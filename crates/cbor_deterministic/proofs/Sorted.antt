-- Entries in the order of their keys: two lists with the same members are the same.
use Rattle.cbor_deterministic.specs.Orders.{Precedes}
use Rattle.cbor_deterministic.specs.declared.Order.{Order}
use Rattle.std.proofs.Common.{◌≡◌, ℕ, ◌⊎◌, inl, inr, List, [], ◌∷◌, refl, sym, ap, subst}
use Rattle.cbor_deterministic.proofs.OrderLaws.{precedes_trans, not_itself, not_both}

-- The bytes of a key and of a value.
pub record Entry : Type 0 where
  pub key : List ℕ
  pub value : List ℕ

abbrev pub Has : Entry → List Entry → Type 0
Has e [] = ⊥
Has e (f ∷ fs) = (e ≡ f) ⊎ Has e fs

abbrev pub AllIn : List Entry → List Entry → Type 0
AllIn [] fs = Unit {0}
AllIn (e ∷ es) fs = Has e fs × AllIn es fs

abbrev pub Ascends : Order → List ℕ → List Entry → Type 0
Ascends ord above [] = Unit {0}
Ascends ord above (e ∷ es) = Precedes ord above e.key × Ascends ord e.key es

module _ (ord : Order) where
  -- Each member of entries that ascend from `above` comes after `above`.
  pub behind : (above : List ℕ) (es : List Entry) (x : Entry) → Ascends ord above es → Has x es
      → Precedes ord above x.key
  behind above [] x a i = absurd i
  behind above (e ∷ es) x a (inl s) = subst (λ (y : Entry). Precedes ord above y.key) (sym s) a.0
  behind above (e ∷ es) x a (inr i) = precedes_trans ord above e.key x.key a.0 (behind e.key es x a.1 i)

  -- If all members come after the first member of another list, they are among its other members.
  drop_first : (f : Entry) (es fs : List Entry) (above : List ℕ) → Ascends ord above es → above ≡ f.key
      → AllIn es (f ∷ fs) → AllIn es fs
  drop_first f [] fs above a s i = tt
  drop_first f (e ∷ es) fs above a s i = (one i.0, drop_first f es fs above (lower a.0 a.1) s i.1)
    where
      one : Has e (f ∷ fs) → Has e fs
      one (inl same) = absurd (not_itself ord f.key
          (subst (λ (z : List ℕ). Precedes ord z f.key) s (subst (λ (y : Entry). Precedes ord above y.key) same a.0)))
      one (inr h) = h

      lower : Precedes ord above e.key → Ascends ord e.key es → Ascends ord above es
      lower p q = go es q
        where
          go : (xs : List Entry) → Ascends ord e.key xs → Ascends ord above xs
          go [] q = tt
          go (x ∷ xs) q = (precedes_trans ord above e.key x.key p q.0, q.1)

  pub same_sorted : (es fs : List Entry) (a b : List ℕ) → Ascends ord a es → Ascends ord b fs → AllIn es fs
      → AllIn fs es
      → es ≡ fs
  same_sorted [] [] a b p q i j = refl
  same_sorted [] (f ∷ fs) a b p q i j = absurd j.0
  same_sorted (e ∷ es) [] a b p q i j = absurd i.0
  same_sorted (e ∷ es) (f ∷ fs) a b p q i j =
      let same = first i.0 j.0 in
      let tails = same_sorted es fs e.key f.key p.1 q.1
      (drop_first f es fs e.key p.1 (ap (λ (x : Entry). x.key) same) i.1)
      (drop_first e fs es f.key q.1 (ap (λ (x : Entry). x.key) (sym same)) j.1) in
      cc
    where
      first : Has e (f ∷ fs) → Has f (e ∷ es) → e ≡ f
      first (inl s) h = s
      first (inr h) (inl s) = sym s
      first (inr h) (inr g) = absurd (not_both ord e.key f.key (behind e.key es f p.1 g) (behind f.key fs e q.1 h))
