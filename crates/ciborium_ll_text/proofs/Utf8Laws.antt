-- The texts of Table 3-7 are the texts of std. The bytes that std writes for a character are a row of the table.
use Rattle.std.proofs.Common.{◌≡◌, ℕ, ◌+◌, ◌-◌, ◌*◌, ◌⊎◌, true, List, [], ◌∷◌, ◌++◌, refl, sym, ap}
use Rattle.std.proofs.Common.{◌∙◌, subst, inl, inr, arith, Bool, false}
use Rattle.std.proofs.lemmas.Bool.{and_parts}
use Rattle.std.proofs.lemmas.Bool.Decides.{nat_tests}
use Rattle.std.proofs.Math.Utf8.{scalar, scalars, encode, encodes, scalar_cases}
use Rattle.std.specs.Str.{IsUtf8, is_utf8}
use Rattle.std.proofs.lemmas.Str.{IsUtf8-from_is_utf8, is_utf8-from_IsUtf8}
use Rattle.std.specs.List.{AllByRecursion}
use Rattle.ciborium_ll_text.specs.Text.{IsCharacter, row1, row2, row3, row4, row5, row6, row7, row8}
use Rattle.ciborium_ll_text.specs.Text.{row9, joined, IsCharacters}

-- ---- std writes the bytes of each row for a character

ruleset tests = (arith, nat_tests)

-- Std writes these bytes for some character.
pub record IsWritten (bytes : List ℕ) : Type 0 where
  pub char : ℕ
  pub ok : scalar char ≡ true
  pub is : encode char ≡ bytes

wrote : {bytes : List ℕ} (char : ℕ) → scalar char ≡ true → encode char ≡ bytes → IsWritten bytes
wrote char ok is = record { char = char; ok = ok; is = is }

-- The number of a character of two bytes.
abbrev two : ℕ → ℕ → ℕ
two a b = (a - 192) * 64 + (b - 128)

-- The number of a character of three bytes.
abbrev three : ℕ → ℕ → ℕ → ℕ
three a b c = (a - 224) * 4096 + ((b - 128) * 64 + (c - 128))

-- The number of a character of four bytes.
abbrev four : ℕ → ℕ → ℕ → ℕ → ℕ
four a b c d = (a - 240) * 262144 + ((b - 128) * 4096 + ((c - 128) * 64 + (d - 128)))

-- Std writes the bytes of each row for some character.
pub written : (bytes : List ℕ) → IsCharacter bytes → IsWritten bytes
unfolding encode
written bytes (row1 {a} p) = wrote a (grind tests) (grind tests)
written bytes (row2 {a} {b} p q) = wrote (two a b) (grind tests) (grind tests)
written bytes (row3 {a} {b} {c} p q r) = wrote (three a b c) (grind tests) (grind tests)
written bytes (row4 {a} {b} {c} p q r) = wrote (three a b c) (grind tests) (grind tests)
written bytes (row5 {a} {b} {c} p q r) = wrote (three a b c) (grind tests) (grind tests)
written bytes (row6 {a} {b} {c} p q r) = wrote (three a b c) (grind tests) (grind tests)
written bytes (row7 {a} {b} {c} {d} p q r s) = wrote (four a b c d) (grind tests) (grind tests)
written bytes (row8 {a} {b} {c} {d} p q r s) = wrote (four a b c d) (grind tests) (grind tests)
written bytes (row9 {a} {b} {c} {d} p q r s) = wrote (four a b c d) (grind tests) (grind tests)

-- ---- std writes the bytes of a row for each character

-- The bytes that std writes for a character are of one row.
is_character : (c : ℕ) → scalar c ≡ true → IsCharacter (encode c)
unfolding encode
is_character c s = grind (arith, nat_tests, row1, row2, row3, row4, row5, row6, row7, row8, row9, scalar_cases)

-- ---- texts

-- Joined characters are UTF-8 for std.
all_written : (characters : List (List ℕ)) → AllByRecursion IsCharacter characters → IsUtf8 (joined characters)
all_written [] each = ([], (refl, refl))
all_written (x ∷ xs) each =
    let w = written x each.0 in
    let u = all_written xs each.1 in
    let ok : scalars (w.char ∷ u.0) ≡ true = rw (w.ok, u.1.0) refl in
    let is : encodes (w.char ∷ u.0) ≡ x ++ joined xs = ap (λ (z : List ℕ). z ++ encodes u.0) w.is
    ∙ ap (λ (z : List ℕ). x ++ z) u.1.1 in
    (w.char ∷ u.0, (ok, is))

-- The bytes that std writes for characters are joined characters.
all_characters : (cs : List ℕ) → scalars cs ≡ true → IsCharacters (encodes cs)
all_characters [] s = record { characters = []; each = tt; whole = refl }
all_characters (c ∷ cs) s =
    let p = and_parts (scalar c) (scalars cs) s in
    let u = all_characters cs p.1 in
    record {
      characters = encode c ∷ u.characters;
      each = (is_character c p.0, u.each);
      whole =
          ap (λ (z : List ℕ). encode c ++ z) u.whole;
    }

-- A text is UTF-8 for std.
pub to_std : (t : List ℕ) → IsCharacters t → IsUtf8 t
to_std t u = subst IsUtf8 (sym u.whole) (all_written u.characters u.each)

-- Bytes that are UTF-8 for std are a text.
pub from_std : (t : List ℕ) → IsUtf8 t → IsCharacters t
from_std t u = subst IsCharacters u.1.1 (all_characters u.0 u.1.0)

-- The test of std tells if bytes are a text.
tested : (t : List ℕ) (v : Bool) → is_utf8 t ≡ v → IsCharacters t ⊎ (IsCharacters t → ⊥)
tested t true e = inl (from_std t (IsUtf8-from_is_utf8 t e))
tested t false e = inr (λ u. (let w = is_utf8-from_IsUtf8 t (to_std t u) in absurd (cc (e, w))))

-- Bytes are a text, or they are not.
pub text_or_none : (t : List ℕ) → IsCharacters t ⊎ (IsCharacters t → ⊥)
text_or_none t = tested t (is_utf8 t) refl
