-- The two orders of keys.
use Rattle.std.proofs.Common.{◌≡◌, ℕ, ◌<◌, inl, inr, List, [], ◌∷◌, length, refl, sym, ◌∙◌, arith}
use Rattle.std.specs.declared.cmp.Ordering.{Ordering}
use Rattle.std.specs.declared.cmp.Ordering.TheVariants.{Less, Equal, Greater}
use Rattle.std.specs.Ordering.{ordering_then, nat_cmp, MatchOrdering}
use Rattle.std.specs.Cmp.Lexicographic.{slice_cmp}
use Rattle.std.proofs.lemmas.Cmp.{ranked}
use Rattle.cbor_deterministic.specs.declared.Order.{Order}
use Rattle.cbor_deterministic.specs.declared.Order.TheVariants.{Bytewise, LengthFirst}
use Rattle.cbor_deterministic.specs.Orders.{IsBytewiseBefore, Precedes}

-- ---- bytewise

ranks_more : (x y : ℕ) (xs ys : List ℕ) (o : Ordering) → MatchOrdering o (x < y) (x ≡ y) (y < x) → (p : Ordering)
    → MatchOrdering p (IsBytewiseBefore xs ys) (xs ≡ ys) (IsBytewiseBefore ys xs)
    → MatchOrdering (ordering_then o p) (IsBytewiseBefore (x ∷ xs) (y ∷ ys)) (x ∷ xs ≡ y ∷ ys)
    (IsBytewiseBefore (y ∷ ys) (x ∷ xs))
ranks_more x y xs ys Less h p k = inl h
ranks_more x y xs ys Equal h Less k = inr (h, k)
ranks_more x y xs ys Equal h Equal k = cc
ranks_more x y xs ys Equal h Greater k = inr (sym h, k)
ranks_more x y xs ys Greater h p k = inl h

-- The order of lists in std is the bytewise order.
pub ranks_own : (xs ys : List ℕ)
    → MatchOrdering (slice_cmp nat_cmp xs ys) (IsBytewiseBefore xs ys) (xs ≡ ys) (IsBytewiseBefore ys xs)
ranks_own [] [] = refl
ranks_own [] (y ∷ ys) = tt
ranks_own (x ∷ xs) [] = tt
ranks_own (x ∷ xs) (y ∷ ys) =
    ranks_more x y xs ys (nat_cmp x y) (ranked x y (nat_cmp x y) refl) (slice_cmp nat_cmp xs ys) (ranks_own xs ys)

bytes_itself : (xs : List ℕ) → IsBytewiseBefore xs xs → ⊥
bytes_itself [] p = p
bytes_itself (x ∷ xs) (inl l) = omega arith
bytes_itself (x ∷ xs) (inr e) = bytes_itself xs e.1

bytes_trans : (xs ys zs : List ℕ) → IsBytewiseBefore xs ys → IsBytewiseBefore ys zs → IsBytewiseBefore xs zs
bytes_trans [] [] [] p q = p
bytes_trans [] [] (z ∷ zs) p q = tt
bytes_trans [] (y ∷ ys) [] p q = q
bytes_trans [] (y ∷ ys) (z ∷ zs) p q = tt
bytes_trans (x ∷ xs) [] zs p q = absurd p
bytes_trans (x ∷ xs) (y ∷ ys) [] p q = q
bytes_trans (x ∷ xs) (y ∷ ys) (z ∷ zs) (inl l) (inl m) = inl (omega arith)
bytes_trans (x ∷ xs) (y ∷ ys) (z ∷ zs) (inl l) (inr e) = inl (let f = e.0 in omega arith)
bytes_trans (x ∷ xs) (y ∷ ys) (z ∷ zs) (inr e) (inl m) = inl (let f = e.0 in omega arith)
bytes_trans (x ∷ xs) (y ∷ ys) (z ∷ zs) (inr e) (inr f) = inr (e.0 ∙ f.0, bytes_trans xs ys zs e.1 f.1)

-- ---- each order

-- The first key comes before the second, is the same, or comes after it.
abbrev pub Ranks : Order → Ordering → List ℕ → List ℕ → Type 0
Ranks ord r xs ys = MatchOrdering r (Precedes ord xs ys) (xs ≡ ys) (Precedes ord ys xs)

pub bytes_rank : (xs ys : List ℕ) (r : Ordering) → r ≡ slice_cmp nat_cmp xs ys → Ranks Bytewise r xs ys
bytes_rank xs ys r e = rw e (ranks_own xs ys)

length_rank_go : (r : Ordering) (xs ys : List ℕ) → length xs ≡ length ys
    → MatchOrdering r (IsBytewiseBefore xs ys) (xs ≡ ys) (IsBytewiseBefore ys xs) → Ranks LengthFirst r xs ys
length_rank_go Less xs ys l m = inr (l, m)
length_rank_go Equal xs ys l m = m
length_rank_go Greater xs ys l m = inr (sym l, m)

pub length_rank : (xs ys : List ℕ) (r : Ordering) → length xs ≡ length ys → r ≡ slice_cmp nat_cmp xs ys
    → Ranks LengthFirst r xs ys
length_rank xs ys r l e = length_rank_go r xs ys l (rw e (ranks_own xs ys))

pub record Ranked (ord : Order) (xs ys : List ℕ) : Type 0 where
  pub ordering : Ordering
  pub ranks : Ranks ord ordering xs ys

-- Any two keys have one of these three orderings.
pub rank : (ord : Order) (xs ys : List ℕ) → Ranked ord xs ys
rank Bytewise xs ys = record { ordering = slice_cmp nat_cmp xs ys; ranks = ranks_own xs ys }
rank LengthFirst xs ys = go (nat_cmp (length xs) (length ys)) (ranked (length xs) (length ys) _ refl)
  where
    go : (r : Ordering) → MatchOrdering r (length xs < length ys) (length xs ≡ length ys) (length ys < length xs)
        → Ranked LengthFirst xs ys
    go Less l = record { ordering = Less; ranks = inl l }
    go Equal l = record { ordering = slice_cmp nat_cmp xs ys; ranks = length_rank xs ys _ l refl }
    go Greater l = record { ordering = Greater; ranks = inl l }

-- No key comes before itself.
pub not_itself : (ord : Order) (xs : List ℕ) → Precedes ord xs xs → ⊥
not_itself Bytewise xs p = bytes_itself xs p
not_itself LengthFirst xs (inl l) = omega arith
not_itself LengthFirst xs (inr e) = bytes_itself xs e.1

pub precedes_trans : (ord : Order) (xs ys zs : List ℕ) → Precedes ord xs ys → Precedes ord ys zs → Precedes ord xs zs
precedes_trans Bytewise xs ys zs p q = bytes_trans xs ys zs p q
precedes_trans LengthFirst xs ys zs (inl l) (inl m) = inl (omega arith)
precedes_trans LengthFirst xs ys zs (inl l) (inr e) = inl (let f = e.0 in omega arith)
precedes_trans LengthFirst xs ys zs (inr e) (inl m) = inl (let f = e.0 in omega arith)
precedes_trans LengthFirst xs ys zs (inr e) (inr f) = inr (e.0 ∙ f.0, bytes_trans xs ys zs e.1 f.1)

-- The empty list comes before each other list.
pub first_key : (ord : Order) (w : List ℕ) → 0 < length w → Precedes ord [] w
first_key ord [] l = absurd (omega arith)
first_key Bytewise (x ∷ w) l = tt
first_key LengthFirst (x ∷ w) l = inl (omega arith)

-- Two keys do not both come before each other.
pub not_both : (ord : Order) (xs ys : List ℕ) → Precedes ord xs ys → Precedes ord ys xs → ⊥
not_both ord xs ys p q = not_itself ord xs (precedes_trans ord xs ys xs p q)
