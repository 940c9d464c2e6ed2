-- The refused bytes are the 27 bytes of the list.
use Rattle.std.proofs.Common.{◌≡◌, ℕ, zero, suc, ◌<◌, ◌↔◌, List, [], ◌∷◌, length, get_or, arith, inl, inr, rules}
use Rattle.std.specs.List.{AllByRecursion, Contains}
use Rattle.std.specs.List.Sorted.{IsStrictlyIncreasing, IsStrictlySortedBy}
use Rattle.std.proofs.lemmas.Map.Keys.{IsStrictlyIncreasing-from_sorted}
use Rattle.std.proofs.lemmas.Bool.{cases_eq}
use Rattle.ciborium_ll_grammar.specs.Title.{IsRefused, refused_bytes}

-- A property of all elements holds of each element.
of_all : (P : ℕ → Type 0) (xs : List ℕ) (x k : ℕ) → AllByRecursion P xs → k < length xs → get_or xs k x ≡ x → P x
of_all P [] x k all l e = absurd (omega arith)
of_all P (y ∷ xs) x zero all l e = rw e at all.0
of_all P (y ∷ xs) x (suc k) all l e = of_all P xs x k all.1 (omega arith) e

-- A list contains a number if not all its elements differ from the number.
listed : (xs : List ℕ) (x : ℕ) → (AllByRecursion (λ y. y ≡ x → ⊥) xs → ⊥) → Contains xs x
listed [] x some = absurd (some tt)
listed (y ∷ xs) x some = elim (cases_eq y x) [
  | inl e ↦ (0, omega arith, e)
  | inr differs ↦ let behind = listed xs x (λ all. some (differs, all)) in (suc behind.0, omega arith, behind.2)
]

-- Each byte of the list is refused.
all_refused : AllByRecursion IsRefused refused_bytes
all_refused = grind arith

to_list : (b : ℕ) → b < 256 → IsRefused b → AllByRecursion (λ y. y ≡ b → ⊥) refused_bytes → ⊥
to_list b l r all = omega arith

-- A byte is refused exactly if the list contains it.
pub refused_listed : (b : ℕ) → b < 256 → (IsRefused b ↔ Contains refused_bytes b)
refused_listed b l =
    (λ r. listed refused_bytes b (to_list b l r), λ c. of_all IsRefused refused_bytes b c.0 all_refused c.1 c.2)

pub refused_ascend : IsStrictlyIncreasing refused_bytes
unfolding IsStrictlySortedBy
refused_ascend = IsStrictlyIncreasing-from_sorted refused_bytes (search rules)
