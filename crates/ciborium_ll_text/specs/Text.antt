-- Text in UTF-8: characters, joined. Each character is a row of Unicode's Table 3-7.
use Rattle.std.specs.Prelude.{◌≡◌, ℕ, ◌≤◌, List, [], ◌∷◌, ◌++◌, length}
use Rattle.std.specs.List.{AllByRecursion}

-- The byte is from the lowest to the highest, both included. `a4` is from `80` to `bf`.
abbrev pub IsFrom : ℕ → ℕ → ℕ → Type 0
IsFrom lowest highest byte = (lowest ≤ byte) × (byte ≤ highest)

-- The byte may be the last of a character of two or more bytes (Unicode, Table 3-7). `a4` is the last byte of `c3 a4`.
abbrev pub IsTail : ℕ → Type 0
IsTail byte = IsFrom 0x80 0xbf byte

-- The bytes are one character. The nine rows of Unicode's Table 3-7 say which bytes may be its first, second, third and
-- fourth. `c3 a4` is a character of the second row.
pub data IsCharacter : List ℕ → Type 0 where
  row1 : {a : ℕ} → IsFrom 0x00 0x7f a → IsCharacter (a ∷ [])
  row2 : {a b : ℕ} → IsFrom 0xc2 0xdf a → IsTail b → IsCharacter (a ∷ b ∷ [])
  row3 : {a b c : ℕ} → IsFrom 0xe0 0xe0 a → IsFrom 0xa0 0xbf b → IsTail c → IsCharacter (a ∷ b ∷ c ∷ [])
  row4 : {a b c : ℕ} → IsFrom 0xe1 0xec a → IsTail b → IsTail c → IsCharacter (a ∷ b ∷ c ∷ [])
  row5 : {a b c : ℕ} → IsFrom 0xed 0xed a → IsFrom 0x80 0x9f b → IsTail c → IsCharacter (a ∷ b ∷ c ∷ [])
  row6 : {a b c : ℕ} → IsFrom 0xee 0xef a → IsTail b → IsTail c → IsCharacter (a ∷ b ∷ c ∷ [])
  row7 : {a b c d : ℕ} → IsFrom 0xf0 0xf0 a → IsFrom 0x90 0xbf b → IsTail c → IsTail d
      → IsCharacter (a ∷ b ∷ c ∷ d ∷ [])
  row8 : {a b c d : ℕ} → IsFrom 0xf1 0xf3 a → IsTail b → IsTail c → IsTail d → IsCharacter (a ∷ b ∷ c ∷ d ∷ [])
  row9 : {a b c d : ℕ} → IsFrom 0xf4 0xf4 a → IsFrom 0x80 0x8f b → IsTail c → IsTail d
      → IsCharacter (a ∷ b ∷ c ∷ d ∷ [])

-- The lists, joined. `61` and `c3 a4` joined are `61 c3 a4`.
abbrev pub joined : List (List ℕ) → List ℕ
joined [] = []
joined (list ∷ lists) = list ++ joined lists

-- The bytes are text: characters, joined (Unicode, Table 3-7). By the law `same_text`, this is std's UTF-8. `61 c3 a4`
-- is a text of two characters.
pub record IsCharacters (bytes : List ℕ) : Type 0 where
  pub characters : List (List ℕ)
  pub each : AllByRecursion IsCharacter characters
  pub whole : bytes ≡ joined characters

-- The bytes are a front that is text, and a rest. No longer front of the bytes is text. `61 e2 82` has the front `61`
-- and the rest `e2 82`.
pub record IsFront (bytes front rest : List ℕ) : Type 0 where
  pub parts : bytes ≡ front ++ rest
  pub text : IsCharacters front
  pub longest : (other more : List ℕ) → bytes ≡ other ++ more → IsCharacters other → length other ≤ length front

-- No front of the bytes but the empty one is text. `e2 82` is stuck.
abbrev pub IsStuck : List ℕ → Type 0
IsStuck bytes = (front rest : List ℕ) → bytes ≡ front ++ rest → IsCharacters front → front ≡ []

-- No text begins with the bytes. `c0` begins no text, and `ed a0` begins none.
abbrev pub BeginsNoText : List ℕ → Type 0
BeginsNoText bytes = (more : List ℕ) → IsCharacters (bytes ++ more) → ⊥
