-- A byte as text: two hexadecimal digits in lower case.
use Rattle.std.specs.Prelude.{ℕ, ◌+◌, ◌/◌, ◌%◌, nat_lt, if◌then◌else◌, List, [], ◌∷◌}

-- The digit of a number below 16: `0` is 48, and `a` is 97.
abbrev pub hex_digit : ℕ → ℕ
hex_digit number = if nat_lt number 10 then 48 + number else 87 + number

-- A byte as two digits, the upper half first: the byte 2b is `2b`.
abbrev pub hex_text : ℕ → List ℕ
hex_text byte = hex_digit (byte / 16) ∷ hex_digit (byte % 16) ∷ []
