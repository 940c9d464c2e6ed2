-- Numbers as words of a line.
use Rattle.std.specs.Prelude.{◌≡◌, ◌≤◌, ℕ, List, length, codes, slice_index, Option, Some, None}
use Rattle.std.specs.Str.Parse.{IsNumeral, digits_value}

-- The greatest number of a line, 2^32 - 1. So `4294967296` is no number.
abbrev pub most_number : ℕ
most_number = 4294967295

-- The greatest size of a buffer, in bytes. `chunks 65536 -` is a request, and `chunks 65537 -` is none.
abbrev pub most_size : ℕ
most_size = 65536

-- The greatest depth of an item. `skip 256 80` is a request, and `skip 257 80` is none.
abbrev pub most_depth : ℕ
most_depth = 256

-- The word consists of digits, and the number is their value, at most 4294967295. The first digit is a zero only in the
-- word `0`, so `01` is no number.
pub record IsNumber (word : List ℕ) (n : ℕ) : Type 0 where
  pub numeral : IsNumeral 10 word
  pub shortest : slice_index word 0 ≡ 48 → length word ≡ 1
  pub value : n ≡ digits_value 10 word
  pub most : n ≤ most_number

-- The word is a number that is at most `most`. If this is 256, `256` is such a number, and `257` is not.
abbrev pub IsNumberUpTo : ℕ → List ℕ → ℕ → Type 0
IsNumberUpTo most word n = IsNumber word n × (n ≤ most)

-- The word is a limit: a number, as `2`, or `*` for none.
abbrev pub IsLimit : List ℕ → Option ℕ → Type 0
IsLimit word None = word ≡ codes "*"
IsLimit word (Some limit) = IsNumber word limit
