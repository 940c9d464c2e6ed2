-- Bytes as words of hexadecimal digits.
use Rattle.std.specs.Prelude.{◌≡◌, ◌⊎◌, ◌<◌, ◌%◌, ◌==◌, ℕ, List, [], ◌∷◌, length, codes, if◌then◌else◌, Option, Some}
use Rattle.std.specs.Prelude.{None, Result, Ok, Err}
use Rattle.std.specs.List.{AllPass}
use Rattle.hex.specs.Hex.{decode_of, encode_lower, is_hex_digit}
use Rattle.hex.specs.declared.error.FromHexError.{FromHexError}

-- The word that stands for no bytes: `-`, as in `heads -`.
abbrev pub no_bytes : List ℕ
no_bytes = codes "-"

-- The word is `-`, or an even number of hexadecimal digits, at least two: `0aff` is one, and `0af` is none.
abbrev pub IsHexWord : List ℕ → Type 0
IsHexWord word = (word ≡ no_bytes) ⊎ ((0 < length word) × (length word % 2 ≡ 0) × AllPass is_hex_digit word)

-- The bytes that were decoded, if they were: `0a ff` for `Ok` of `0a ff`, and none for an error.
abbrev pub decoded : Result (List ℕ) FromHexError → Option (List ℕ)
decoded (Ok bytes) = Some bytes
decoded (Err e) = None

-- The bytes that a word stands for: none for `-`, otherwise those of its digits, at least two. `0aff` stands for `0a
-- ff`.
abbrev pub bytes_of_word : List ℕ → Option (List ℕ)
bytes_of_word [] = None
bytes_of_word (digit ∷ []) = if digit == 45 then Some [] else None
bytes_of_word (high ∷ low ∷ rest) = decoded (decode_of (high ∷ low ∷ rest))

-- The word that stands for bytes: `-` for none, otherwise two lower case digits for each byte, as `0aff` for `0a ff`.
abbrev pub word_of_bytes : List ℕ → List ℕ
word_of_bytes [] = no_bytes
word_of_bytes (first ∷ rest) = encode_lower (first ∷ rest)
