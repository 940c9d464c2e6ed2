-- The words that have bytes, and the word that some bytes have.
use Rattle.std.proofs.Common.{◌≡◌, ◌≢◌, refl, true, false, ◌==◌, ℕ, List, [], ◌∷◌, length, Some, None, Ok, Err}
use Rattle.std.proofs.Common.{inl, inr, sym, ap, ◌∙◌, arith}
use Rattle.hex.specs.Hex.{IsBytes, decode_of, encode_lower, lower_digits}
use Rattle.hex.specs.declared.error.FromHexError.{FromHexError}
use Rattle.hex.proofs.HexLemmas.{decode_of-digits, decode_of-encode_lower, decode_of-ok, length-encode_with}
use Rattle.tool_requests.specs.Word.{IsHexWord, bytes_of_word, decoded, no_bytes}

-- A word whose digits decode has the decoded bytes.
pub bytes_of_word-some : (word bytes : List ℕ) → word ≢ [] → decode_of word ≡ Ok bytes → bytes_of_word word ≡ Some bytes
bytes_of_word-some [] bytes some h = absurd (some refl)
bytes_of_word-some (digit ∷ []) bytes some h =
    let ok = decode_of-ok (digit ∷ []) bytes h in absurd (omega (arith, ok.0))
bytes_of_word-some (high ∷ low ∷ rest) bytes some h = ap decoded h

-- A word other than `-` has no bytes if its digits don't decode.
pub bytes_of_word-none : (word : List ℕ) (e : FromHexError) → word ≢ no_bytes → decode_of word ≡ Err e
    → bytes_of_word word ≡ None
bytes_of_word-none [] e other h = refl
bytes_of_word-none (digit ∷ []) e other h =
    let no : (digit ≡ 45 → ⊥) = λ same. other (ap (λ d. d ∷ []) same) in grind (arith)
bytes_of_word-none (high ∷ low ∷ rest) e other h = ap decoded h

-- A word that decodes is a word of digits.
pub IsHexWord-decoded : (word bytes : List ℕ) → false ≡ (length word == 0) → decode_of word ≡ Ok bytes → IsHexWord word
IsHexWord-decoded [] bytes some h = cc some
IsHexWord-decoded (digit ∷ rest) bytes some h =
    let ok = decode_of-ok (digit ∷ rest) bytes h in
    inr (omega arith, ok.0, ok.1)

-- A word other than `-` is no word of digits if it doesn't decode.
pub IsHexWord-refused : (word : List ℕ) (e : FromHexError) → word ≢ no_bytes → decode_of word ≡ Err e
    → IsHexWord word → ⊥
IsHexWord-refused word e other h hex =
    elim hex [
      | inl same ↦ other same
      | inr digits ↦
          let d = decode_of-digits word digits.1 digits.2 in cc (sym h ∙ d.1)
    ]

-- A word of length zero is empty.
pub no_word : (word : List ℕ) → true ≡ (length word == 0) → word ≡ []
no_word [] h = refl
no_word (byte ∷ rest) h = grind (arith)

-- The empty word is no word of digits.
pub IsHexWord-nil : IsHexWord [] → ⊥
IsHexWord-nil (inl same) = cc same
IsHexWord-nil (inr digits) = let some = digits.0 in omega (arith, some)

-- A list of another length than zero has an element.
IsFilled : (xs : List ℕ) → false ≡ (length xs == 0) → xs ≢ []
IsFilled [] h none = cc h
IsFilled (x ∷ rest) h none = let zero = ap length none in omega (arith, zero)

-- The word of some bytes stands for these bytes.
pub bytes_of_word-encode_lower : (bytes : List ℕ) → false ≡ (length bytes == 0) → IsBytes bytes
    → bytes_of_word (encode_lower bytes) ≡ Some bytes
bytes_of_word-encode_lower [] some h = cc some
bytes_of_word-encode_lower (first ∷ rest) some h =
    let size = length-encode_with lower_digits (first ∷ rest) in
    let filled : encode_lower (first ∷ rest) ≢ [] = λ none. let zero = ap length none in omega (arith, size, zero) in
    bytes_of_word-some (encode_lower (first ∷ rest)) (first ∷ rest) filled (decode_of-encode_lower (first ∷ rest) h)
