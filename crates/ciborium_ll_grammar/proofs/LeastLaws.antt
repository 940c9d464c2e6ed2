-- The table of the least numbers of titles that are the shortest of their header.
use Rattle.std.proofs.Common.{◌≡◌, ℕ, ◌/◌, ◌%◌, ◌<◌, ◌^◌, true, Some}
use Rattle.std.proofs.Common.{arith, eqb, get_or, if◌then◌else◌, ltb, refl}
use Rattle.std.specs.Prelude.{nat_lt}
use Rattle.std.proofs.lemmas.Bool.{agree_below_at}
use Rattle.std.proofs.lemmas.Bool.Decides.{nat_tests}
use Rattle.ciborium_ll_grammar.specs.declared.hdr.Minor.{Minor}
use Rattle.ciborium_ll_grammar.specs.declared.hdr.Minor.TheVariants as m
use Rattle.ciborium_ll_grammar.specs.declared.titles.TheConstants.{LEASTS}
use Rattle.ciborium_ll_grammar.specs.Parts.{IsMinor, minor_code, minor_number, refused_when_strict}
use Rattle.ciborium_ll_grammar.specs.TitleRows.{IsLeast}

-- The least number as a function of the minor under the major type 7, and under one below it.

abbrev other_least : ℕ → ℕ
other_least minor = if eqb minor 24 then 32 else 0

abbrev number_least : ℕ → ℕ
number_least minor =
    if eqb minor 24 then 24 else (if eqb minor 25 then 2 ^ 8 else (if eqb minor 26 then 2 ^ 16 else (if eqb minor 27
    then 2 ^ 32 else 0)))

abbrev least_by : ℕ → ℕ
least_by first = if ltb (first / 32) 7 then number_least (first % 32) else other_least (first % 32)

-- The function has what the definition says.
least_tells : (first least : ℕ) → least ≡ least_by first → IsLeast first least
least_tells first least e = record {
  small = λ at. grind (arith, nat_tests);
  one = λ at low. grind (arith, nat_tests);
  two = λ at low. grind (arith, nat_tests);
  four = λ at low. grind (arith, nat_tests);
  eight = λ at low. grind (arith, nat_tests);
  simple = λ at high. grind (arith, nat_tests);
  float = λ at high. grind (arith, nat_tests);
}

least_equal : (m n : ℕ) → eqb m n ≡ true → m ≡ n
least_equal m n e = grind (arith, nat_tests)

-- The table has the least number for each of the 256 first bytes.
pub least_says : (first : ℕ) → first < 256 → IsLeast first (get_or LEASTS first 0)
least_says first l =
    least_tells first (get_or LEASTS first 0) (least_equal _ _ (agree_below_at
    (λ (b : ℕ). eqb (get_or LEASTS b 0) (least_by b)) (λ (b : ℕ). true) 256 first refl l))

-- A number is below the least one exactly if its title is not the shortest.
pub longer_says : (first number least : ℕ) (minor : Minor) → first < 256 → IsLeast first least → IsMinor minor
    → minor_code minor ≡ first % 32 → minor_number minor ≡ Some number
    → nat_lt number least ≡ refused_when_strict (first / 32) minor
longer_says first number least (m.Small n) byte is small code has = grind (arith, nat_tests)
longer_says first number least (m.One n) byte is small code has = grind (arith, nat_tests)
longer_says first number least (m.Two n) byte is small code has = grind (arith, nat_tests)
longer_says first number least (m.Four n) byte is small code has = grind (arith, nat_tests)
longer_says first number least (m.Eight n) byte is small code has = grind (arith, nat_tests)
longer_says first number least m.Open byte is small code has = absurd cc
