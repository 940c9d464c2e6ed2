-- Numbers are printed as their words, and hold no space.
use Rattle.std.proofs.Common.{◌≡◌, ◌≢◌, ◌<◌, ℕ, List, [], ◌∷◌, length, get_or, Option, Some, None, arith}
use Rattle.std.specs.Fmt.{decimal}
use Rattle.std.specs.Str.Parse.{AllDigits, digits_value}
use Rattle.std.proofs.lemmas.Fmt.{decimal-digits_value}
use Rattle.std.proofs.lemmas.Str.Parse.{IsNumeralModel, not_in_digits, numerals_by_value, tells_digits}
use Rattle.tool_requests.specs.Number.{IsLimit, IsNumber}
use Rattle.tool_requests.specs.Request.{space}

digits : IsNumeralModel (AllDigits 10) (digits_value 10)
digits = numerals_by_value (AllDigits 10) tells_digits

-- A number is printed as the word that it was read from.
pub decimal_number : (word : List ℕ) (n : ℕ) → IsNumber word n → decimal n ≡ word
decimal_number word n is =
    let value = is.value in
    let most = is.most in
    rw is.value (decimal-digits_value digits word is.numeral.1 is.numeral.0 is.shortest (omega (arith, value, most)))

-- The word of a number holds no space.
pub number_has_no_space : (word : List ℕ) (n : ℕ) → IsNumber word n → (i : ℕ) → i < length word
    → get_or word i 0 ≢ space
number_has_no_space word n is i within =
    not_in_digits digits word space is.numeral.1 (λ range. let low = range.0 in absurd (omega (arith, low))) i within

-- A star is no space.
star_is_no_space : (i : ℕ) → i < 1 → get_or (42 ∷ []) i 0 ≢ space
star_is_no_space i within =
    let first : i ≡ 0 = omega (arith, within) in
    rw first (λ same. absurd (omega (arith, same)))

-- The word of a limit holds no space.
pub limit_has_no_space : (word : List ℕ) (limit : Option ℕ) → IsLimit word limit → (i : ℕ) → i < length word
    → get_or word i 0 ≢ space
limit_has_no_space word None is i within =
    let one : i < 1 = rw is at within in
    rw is (star_is_no_space i one)
limit_has_no_space word (Some n) is i within = number_has_no_space word n is i within
