-- Entries in the order of their keys.
use Rattle.std.proofs.Common.{◌≡◌, ℕ, zero, suc, ◌+◌, ◌-◌, ◌<◌, inl, inr, List, [], ◌∷◌, length, refl, sym, ◌∙◌}
use Rattle.std.proofs.Common.{ap, subst, arith, slice_index_or, Bool, true, false, nat_eq, ◌⊎◌}
use Rattle.std.specs.declared.cmp.Ordering.{Ordering}
use Rattle.std.specs.declared.cmp.Ordering.TheVariants.{Less, Equal, Greater}
use Rattle.std.specs.Ordering.{ordering_then, nat_cmp, is_lt, MatchOrdering}
use Rattle.std.specs.Cmp.{IsTotalOrder}
use Rattle.std.specs.Cmp.Lexicographic.{slice_cmp}
use Rattle.std.specs.List.Sorted.{IsSortedBy}
use Rattle.std.proofs.lemmas.Cmp.{ranked, nat_cmp_total, nat_list_cmp_total, on_total, then_total}
use Rattle.cbor_deterministic.specs.declared.Order.{Order}
use Rattle.cbor_deterministic.specs.declared.Order.TheVariants.{Bytewise, LengthFirst}
use Rattle.cbor_deterministic.specs.Orders.{IsBytewiseBefore, Precedes}
use Rattle.cbor_deterministic.proofs.OrderLaws.{Ranks, ranks_own, not_itself, not_both}
use Rattle.std.specs.List.{AllAdjacentBelow}
use Rattle.std.proofs.lemmas.Bool.Decides.{nat_tests}
use Rattle.cbor_canonical.specs.declared.pairs.Span.{Span}
use Rattle.cbor_canonical.specs.Places.{key_at, entry_at, entries_at, nowhere, HasDisorder}
use Rattle.cbor_canonical.specs.Runs.{Entry, IsBefore, AreSorted, HasEqualKeys}

-- The ordering of two keys.
abbrev pub order_cmp : Order → List ℕ → List ℕ → Ordering
order_cmp Bytewise xs ys = slice_cmp nat_cmp xs ys
order_cmp LengthFirst xs ys = ordering_then (nat_cmp (length xs) (length ys)) (slice_cmp nat_cmp xs ys)

pub order_total : (o : Order) → IsTotalOrder (order_cmp o)
order_total Bytewise = nat_list_cmp_total
order_total LengthFirst = then_total (on_total (λ (xs : List ℕ). length xs) nat_cmp_total) nat_list_cmp_total

length_ranks : (r s : Ordering) (xs ys : List ℕ)
    → MatchOrdering r (length xs < length ys) (length xs ≡ length ys) (length ys < length xs)
    → MatchOrdering s (IsBytewiseBefore xs ys) (xs ≡ ys) (IsBytewiseBefore ys xs)
    → Ranks LengthFirst (ordering_then r s) xs ys
length_ranks Less s xs ys l m = inl l
length_ranks Greater s xs ys l m = inl l
length_ranks Equal Less xs ys l m = inr (l, m)
length_ranks Equal Equal xs ys l m = m
length_ranks Equal Greater xs ys l m = inr (sym l, m)

pub order_ranks : (o : Order) (xs ys : List ℕ) → Ranks o (order_cmp o xs ys) xs ys
order_ranks Bytewise xs ys = ranks_own xs ys
order_ranks LengthFirst xs ys =
    length_ranks (nat_cmp (length xs) (length ys)) (slice_cmp nat_cmp xs ys) xs ys
    (ranked (length xs) (length ys) _ refl) (ranks_own xs ys)

-- Two keys have only one ordering.
pub one_rank : (o : Order) (r s : Ordering) (xs ys : List ℕ) → Ranks o r xs ys → Ranks o s xs ys → r ≡ s
one_rank o Less Less xs ys p q = refl
one_rank o Less Equal xs ys p q = absurd (not_itself o ys (subst (λ (z : List ℕ). Precedes o z ys) q p))
one_rank o Less Greater xs ys p q = absurd (not_both o xs ys p q)
one_rank o Equal Less xs ys p q = absurd (not_itself o ys (subst (λ (z : List ℕ). Precedes o z ys) p q))
one_rank o Equal Equal xs ys p q = refl
one_rank o Equal Greater xs ys p q = absurd (not_itself o ys (subst (λ (z : List ℕ). Precedes o ys z) p q))
one_rank o Greater Less xs ys p q = absurd (not_both o xs ys q p)
one_rank o Greater Equal xs ys p q = absurd (not_itself o ys (subst (λ (z : List ℕ). Precedes o ys z) q p))
one_rank o Greater Greater xs ys p q = refl

-- A key that does not compare as less does not come before the other key.
not_less : (o : Order) (r : Ordering) (xs ys : List ℕ) → Ranks o r xs ys → is_lt r ≡ false → Precedes o xs ys → ⊥
not_less o Less xs ys p e q = cc
not_less o Equal xs ys p e q = not_itself o ys (subst (λ (z : List ℕ). Precedes o z ys) p q)
not_less o Greater xs ys p e q = not_both o xs ys q p

-- A place among others is found by its index, and so is the pair at it.
pub entry_of : (out : List ℕ) (ss : List Span) (k : ℕ) (d : Entry) (z : Span) → k < length ss
    → slice_index_or (entries_at out ss) k d ≡ entry_at out (slice_index_or ss k z)
entry_of out [] k d z l = absurd (omega arith)
entry_of out (s ∷ ss) zero d z l = refl
entry_of out (s ∷ ss) (suc k) d z l = entry_of out ss k d z (omega arith)

pub entries_long : (out : List ℕ) (ss : List Span) → length (entries_at out ss) ≡ length ss
entries_long out [] = refl
entries_long out (s ∷ ss) = ap suc (entries_long out ss)

abbrev pub span_before : Order → List ℕ → Span → Span → Bool
span_before o out a b = is_lt (order_cmp o (key_at out a) (key_at out b))

-- Places that a sort has put in order are sorted by their keys.
pub sorted_keys : (o : Order) (out : List ℕ) (ss : List Span) → IsSortedBy (span_before o out) ss
    → AreSorted o (entries_at out ss)
sorted_keys o out ss up k d l p =
    let long = entries_long out ss in
    let b = key_at out (slice_index_or ss (k + 1) nowhere) in
    let a = key_at out (slice_index_or ss k nowhere) in
    not_less o (order_cmp o b a) b a (order_ranks o b a) (up k nowhere (omega arith) (omega (arith, l, long)))
    (subst (λ (e : Entry). Precedes o b e.key) (entry_of out ss k d nowhere (omega (arith, l, long)))
    (subst (λ (e : Entry). Precedes o e.key (slice_index_or (entries_at out ss) k d).key)
    (entry_of out ss (k + 1) d nowhere (omega (arith, l, long))) p))

-- Keys are the same if neither comes before the other.
pub neither_before : (o : Order) (a b : List ℕ) → (Precedes o a b → ⊥) → (Precedes o b a → ⊥) → a ≡ b
neither_before o a b f g = go (order_cmp o a b) (order_ranks o a b)
  where
    go : (r : Ordering) → Ranks o r a b → a ≡ b
    go Less m = absurd (f m)
    go Equal m = m
    go Greater m = absurd (g m)

-- Neighbours among sorted pairs have the same key if their keys do not ascend.
pub disorder_repeats : (o : Order) (es : List Entry) (at : ℕ) → HasDisorder o at es → AreSorted o es → HasEqualKeys es
disorder_repeats o es at q s =
    let i : at - 1 + 1 ≡ at = omega (arith, q.from) in
    record {
      at = at - 1;
      within = omega (arith, q.within, q.from);
      same = λ d. neither_before o _ _ (subst (λ (j : ℕ). IsBefore o (slice_index_or es (at - 1) d)
          (slice_index_or es j d) → ⊥) (sym i) (q.down d)) (s (at - 1) d (omega (arith, q.within, q.from)));
    }

-- The keys of two places do not ascend if a comparison says so.
pub disorder_there : (o : Order) (out : List ℕ) (ss : List Span) (at : ℕ) (a b : List ℕ) (r : Ordering) → 0 < at
    → at < length ss → a ≡ key_at out (slice_index_or ss (at - 1) nowhere)
    → b ≡ key_at out (slice_index_or ss at nowhere) → Ranks o r a b → (r ≡ Equal) ⊎ (r ≡ Greater)
    → HasDisorder o at (entries_at out ss)
disorder_there o out ss at a b r f l ea eb ranks e = record {
  from = f;
  within = omega (arith, l, entries_long out ss);
  down = λ d p. not_before o r a b ranks e
      (subst (λ (z : List ℕ). Precedes o z b) (ap (λ (x : Entry). x.key)
      (entry_of out ss (at - 1) d nowhere (omega arith)) ∙ sym ea)
      (subst (λ (z : List ℕ). Precedes o (slice_index_or (entries_at out ss) (at - 1) d).key z)
      (ap (λ (x : Entry). x.key) (entry_of out ss at d nowhere l) ∙ sym eb) p));
}
  where
    not_before : (o : Order) (r : Ordering) (a b : List ℕ) → Ranks o r a b → (r ≡ Equal) ⊎ (r ≡ Greater)
        → Precedes o a b → ⊥
    not_before o Less a b m (inl e) p = cc
    not_before o Less a b m (inr e) p = cc
    not_before o Equal a b m e p = not_itself o b (subst (λ (z : List ℕ). Precedes o z b) m p)
    not_before o Greater a b m e p = not_both o a b p m

-- The keys ascend one place further.
pub ascend_more : (o : Order) (out : List ℕ) (ss : List Span) (at : ℕ) (a b : List ℕ) → 0 < at → at < length ss
    → a ≡ key_at out (slice_index_or ss (at - 1) nowhere) → b ≡ key_at out (slice_index_or ss at nowhere)
    → Precedes o a b → AllAdjacentBelow (IsBefore o) (entries_at out ss) at
    → AllAdjacentBelow (IsBefore o) (entries_at out ss) (at + 1)
ascend_more o out ss at a b f l ea eb p up k d m = go (nat_eq (k + 1) at) refl
  where
    go : (same : Bool) → same ≡ nat_eq (k + 1) at → IsBefore o (slice_index_or (entries_at out ss) k d)
        (slice_index_or (entries_at out ss) (k + 1) d)
    go true e =
        let i : k ≡ at - 1 = grind (arith, nat_tests) in
        let j : k + 1 ≡ at = grind (arith, nat_tests) in
        subst (λ (n : ℕ). IsBefore o (slice_index_or (entries_at out ss) n d)
        (slice_index_or (entries_at out ss) (k + 1) d)) (sym i)
        (subst (λ (n : ℕ). IsBefore o (slice_index_or (entries_at out ss) (at - 1) d)
        (slice_index_or (entries_at out ss) n d)) (sym j)
        (subst (λ (z : Entry). Precedes o z.key (slice_index_or (entries_at out ss) at d).key)
        (sym (entry_of out ss (at - 1) d nowhere (omega arith)))
        (subst (λ (z : Entry). Precedes o (key_at out (slice_index_or ss (at - 1) nowhere)) z.key)
        (sym (entry_of out ss at d nowhere l))
        (subst (λ (z : List ℕ). Precedes o z (key_at out (slice_index_or ss at nowhere))) ea
        (subst (λ (z : List ℕ). Precedes o a z) eb p)))))
    go false e = up k d (grind (arith, nat_tests))
