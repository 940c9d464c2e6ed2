-- The nests around an item, by their numbers in two arrays.
use Rattle.std.proofs.Common.{◌≡◌, ℕ, zero, suc, ◌+◌, ◌-◌, ◌<◌, List, ◌∷◌, ◌++◌, take, length, refl, sym, ap, ◌∙◌}
use Rattle.std.proofs.Common.{arith, Option, Some, None, IsSome, get_or, ◌≤◌, ◌≢◌, get_or-set_other, get_or-set_same}
use Rattle.std.proofs.Common.{add-one, inl, inr}
use Rattle.std.proofs.Math.ListN.{get_or-append, set}
use Rattle.std.proofs.lemmas.List.{get_or-take, set-get_or}
use Rattle.std.proofs.lemmas.Option.{same_Some}
use Rattle.ciborium_ll_grammar.specs.declared.remaining.Remaining.{Remaining}
use Rattle.ciborium_ll_grammar.specs.declared.remaining.Remaining.TheVariants as l
use Rattle.cbor_checker.specs.Snapshots.{levels_in, level_in, within_others}
use Rattle.cbor_checker.specs.Spots.{Spot, item_due, settled}
use Rattle.cbor_checker.specs.Stack.{levels_of, others}
use Rattle.std.proofs.Math.Nat.{eq-or-lt_of_le}
use Rattle.std.proofs.lemmas.Bool.Decides.{nat_tests}

-- Only the first `n` numbers of both arrays count.
pub same_levels : (n : ℕ) (kinds counts kinds' counts' : List ℕ)
    → ((i : ℕ) → i < n → get_or kinds' i 0 ≡ get_or kinds i 0)
    → ((i : ℕ) → i < n → get_or counts' i 0 ≡ get_or counts i 0) → levels_in n kinds' counts' ≡ levels_in n kinds counts
same_levels zero kinds counts kinds' counts' k c = refl
same_levels (suc n) kinds counts kinds' counts' k c =
    let below = same_levels n kinds counts kinds' counts' (λ i less. k i (omega (arith, less)))
    (λ i less. c i (omega (arith, less))) in
    cc (k n (omega arith), c n (omega arith), below)

-- The numbers of one more nest add a nest to the list.
pub levels_push : (n m : ℕ) (kinds counts : List ℕ) (kind count : ℕ) (level : Remaining) (levels : List Remaining)
    → n < length kinds → n < length counts → m ≡ n + 1 → level_in kind count ≡ Some level
    → levels_in n kinds counts ≡ Some levels
    → levels_in m (set kinds n kind) (set counts n count) ≡ Some (level ∷ levels)
levels_push n m kinds counts kind count level levels ltk ltc e is below =
    let other : (xs : List ℕ) (x i : ℕ) → i < n → get_or (set xs n x) i 0 ≡ get_or xs i 0 = λ xs x i less.
    let ne : i ≢ n = omega (arith, less) in get_or-set_other xs n i x 0 ne in
    let f = same_levels n kinds counts _ _ (other kinds kind) (other counts count) in
    ap (λ (z : ℕ). levels_in z (set kinds n kind) (set counts n count)) (e ∙ add-one n)
    ∙ cc (get_or-set_same kinds n kind 0 ltk, get_or-set_same counts n count 0 ltc, f, is, below)

others_in : (here : Option Remaining) (below : Option (List Remaining)) (levels : List Remaining)
    → within_others here below ≡ Some levels → below ≡ Some (others levels)
others_in here below levels is = grind (arith, nat_tests)

-- New numbers for the last nest replace the innermost nest.
pub levels_put : (m n : ℕ) (kinds counts : List ℕ) (kind count : ℕ) (level : Remaining) (levels : List Remaining) → m ≡ n + 1
    → n < length kinds → n < length counts → level_in kind count ≡ Some level → levels_in m kinds counts ≡ Some levels
    → levels_in m (set kinds n kind) (set counts n count) ≡ Some (level ∷ others levels)
levels_put m n kinds counts kind count level levels e ltk ltc is all =
    let whole = ap (λ (z : ℕ). levels_in z kinds counts) (sym (e ∙ add-one n)) ∙ all in
    levels_push n m kinds counts kind count level (others levels) ltk ltc e is
    (others_in (level_in (get_or kinds n 0) (get_or counts n 0)) (levels_in n kinds counts) levels whole)

levels_first : (here : Option Remaining) (below : Option (List Remaining)) → below ≡ None → within_others here below ≡ None
levels_first here below e = grind (arith, nat_tests)

-- If one pair of numbers is no nest, the numbers are no nests.
pub levels_none : (m n : ℕ) (kinds counts : List ℕ) → n < m → level_in (get_or kinds n 0) (get_or counts n 0) ≡ None
    → levels_in m kinds counts ≡ None
levels_none zero n kinds counts lt is = absurd (omega arith)
levels_none (suc m) n kinds counts lt is =
    let upto : n ≤ m = omega arith in
    elim (eq-or-lt_of_le upto) [
      | inl same ↦ (let none = rw same at is in rw none refl)
      | inr less ↦ levels_first _ _ (levels_none m n kinds counts less is)
    ]

-- If there are nests, they are those of `levels_of`.
pub some_levels : (known : Option (List Remaining)) → IsSome known → known ≡ Some (levels_of known)
some_levels known some = grind (arith, nat_tests)

pub is_some : (known : Option (List Remaining)) (levels : List Remaining) → known ≡ Some levels → IsSome known
is_some known levels is = rw is refl

-- A number that was copied to the front has the same value there.
pub front_read : (numbers front behind : List ℕ) (n i : ℕ) → front ≡ take n numbers → length front ≡ n → i < n
    → get_or (front ++ behind) i 0 ≡ get_or numbers i 0
front_read numbers front behind n i same long less =
    get_or-append front behind 0 i (omega (arith, long, less))
    ∙ ap (λ (z : List ℕ). get_or z i 0) same ∙ get_or-take n numbers i 0 less

-- ---- one more item in an innermost level of items with an item left

settled_items : (d count : ℕ) (rest : List Remaining) (s : Spot) → 0 < count
    → settled d (l.Items count ∷ rest) s ≡ item_due d (l.Items (count - 1) ∷ rest) s
settled_items d count rest s some = grind (arith, nat_tests)

module _ (m n : ℕ) (kinds counts : List ℕ) (levels : List Remaining) (e : m ≡ n + 1) (ltk : n < length kinds)
    (ltc : n < length counts) (items : get_or kinds n 0 ≡ 0) (is : levels_in m kinds counts ≡ Some levels) where
  -- The new count replaces the old count of the innermost level.
  counted : (count : ℕ) → levels_in m kinds (set counts n count) ≡ Some (l.Items count ∷ others levels)
  counted count =
      rw (set-get_or kinds n 0) at
      (levels_put m n kinds counts (get_or kinds n 0) count (l.Items count) levels e ltk ltc (rw items refl) is)

  pub counted_some : IsSome (levels_in m kinds (set counts n (get_or counts n 0 - 1)))
  counted_some = is_some _ _ (counted (get_or counts n 0 - 1))

  pub counted_due : (d : ℕ) (s : Spot) → 0 < get_or counts n 0
      → settled d levels s ≡ item_due d (levels_of (levels_in m kinds (set counts n (get_or counts n 0 - 1)))) s
  counted_due d s some =
      let count : ℕ = get_or counts n 0 in
      let old = same_Some _ _ (sym is ∙ (rw (set-get_or counts n 0) at (counted count))) in
      ap (λ (z : List Remaining). settled d z s) old ∙ (settled_items d count (others levels) s some
      ∙ sym (ap (λ (z : Option (List Remaining)). item_due d (levels_of z) s) (counted (count - 1))))
