-- The contents of the tables that rows are written from.
use Rattle.std.proofs.Common.{◌≡◌, ℕ, zero, suc, ◌*◌, ◌+◌, ◌-◌, ◌<◌, ◌≤◌, ◌/◌, ◌%◌, Bool, true, List, [], ◌∷◌, ◌++◌}
use Rattle.std.proofs.Common.{◌&&◌, ◌∙◌, ◌≢◌, add-zero, length-drop, eqb, ltb, ap, arith, refl, sym, get_or}
use Rattle.std.proofs.Common.{codes, drop, length, take}
use Rattle.std.proofs.lemmas.Bool.{agree_below_at, and_parts, ltb-true}
use Rattle.std.proofs.lemmas.Bool.Decides.{nat_tests}
use Rattle.std.proofs.lemmas.List.{drop_more, get_or-drop}
use Rattle.std.proofs.lemmas.Str.{IsCharBoundary-from_ascii, chars-IsAscii, encode_ascii}
use Rattle.std.specs.Str.{IsAscii, IsCharBoundary, chars}
use Rattle.ciborium_ll_text.specs.Digits.{hex_digit, hex_text}
use Rattle.cbor_escapes.specs.Escapes.{AreUnescaped}
use Rattle.cbor_escapes.proofs.UnescapedLaws.{unescaped_ascii, rest_unescaped}
use Rattle.cbor_dump.specs.RowTexts.{blank, character_text, characters_text}
use Rattle.cbor_dump.specs.declared.rows.TheConstants.{DIGITS, MARGIN}

-- ---- digits

digit_test : ℕ → Bool
digit_test b =
    eqb (get_or DIGITS.now (3 * b) 0) 32
    && (eqb (get_or DIGITS.now (3 * b + 1) 0) (hex_digit (b / 16))
    && eqb (get_or DIGITS.now (3 * b + 2) 0) (hex_digit (b % 16)))

three_first : (xs : List ℕ) → 3 ≤ length xs → take 3 xs ≡ get_or xs 0 0 ∷ get_or xs 1 0 ∷ get_or xs 2 0 ∷ []
three_first [] less = absurd (omega (arith, less))
three_first (a ∷ []) less = absurd (omega (arith, less))
three_first (a ∷ b ∷ []) less = absurd (omega (arith, less))
three_first (a ∷ b ∷ c ∷ xs) less = refl

three_at : (xs : List ℕ) (at : ℕ) → at + 3 ≤ length xs
    → take 3 (drop at xs) ≡ get_or xs at 0 ∷ get_or xs (at + 1) 0 ∷ get_or xs (at + 2) 0 ∷ []
three_at xs at less =
    three_first (drop at xs) (omega (arith, less, length-drop at xs))
    ∙ rw (get_or-drop at xs 0 0, get_or-drop at xs 1 0, get_or-drop at xs 2 0, add-zero at) refl

digit_parts : (a b c x y z : ℕ) → (eqb a x && (eqb b y && eqb c z)) ≡ true → (a ≡ x) × (b ≡ y) × (c ≡ z)
digit_parts a b c x y z e = grind (arith, nat_tests)

-- After each space the table has the digits of a byte.
pub digits_behind : (b : ℕ) → b < 256 → take 3 (drop (3 * b) DIGITS.now) ≡ 32 ∷ hex_text b
unfolding digit_test
digits_behind b l =
    let passes = agree_below_at digit_test (λ n. true) 256 b refl l in
    let parts = digit_parts (get_or DIGITS.now (3 * b) 0) (get_or DIGITS.now (3 * b + 1) 0)
    (get_or DIGITS.now (3 * b + 2) 0) 32 (hex_digit (b / 16)) (hex_digit (b % 16)) passes in
    three_at DIGITS.now (3 * b) (omega (arith, l)) ∙ rw (parts.0, parts.1, parts.2) refl

two_behind : (xs : List ℕ) → take 2 (drop 1 xs) ≡ drop 1 (take 3 xs)
two_behind [] = refl
two_behind (x ∷ xs) = refl

pub digits_alone : (b : ℕ) → b < 256 → take 2 (drop (3 * b + 1) DIGITS.now) ≡ hex_text b
digits_alone b l =
    let moved : drop (3 * b + 1) DIGITS.now ≡ drop 1 (drop (3 * b) DIGITS.now) =
    sym (ap (λ (z : List ℕ). drop 1 z) (drop_more DIGITS.now (3 * b) 0 (omega (arith, l)))) in
    ap (λ (z : List ℕ). take 2 z) moved ∙ (two_behind (drop (3 * b) DIGITS.now) ∙ ap (λ (z : List ℕ). drop 1 z) (digits_behind b l))

-- ---- cuts in texts of ASCII

all_ascii : List ℕ → Bool
all_ascii [] = true
all_ascii (x ∷ xs) = ltb x 128 && all_ascii xs

ascii_all : (xs : List ℕ) → all_ascii xs ≡ true → IsAscii xs
unfolding all_ascii
ascii_all [] e i = omega arith
ascii_all (x ∷ xs) e zero = ltb-true x 128 (and_parts (ltb x 128) (all_ascii xs) e).0
ascii_all (x ∷ xs) e (suc i) = ascii_all xs (and_parts (ltb x 128) (all_ascii xs) e).1 i

digits_ascii : IsAscii DIGITS.now
unfolding all_ascii
digits_ascii = ascii_all DIGITS.now refl

margin_ascii : IsAscii MARGIN.now
unfolding all_ascii
margin_ascii = ascii_all MARGIN.now refl

pub cut_digits : (at : ℕ) → at ≤ 768 → IsCharBoundary DIGITS.now at
cut_digits at le = IsCharBoundary-from_ascii DIGITS.now at digits_ascii le

pub cut_margin : (at : ℕ) → at ≤ 36 → IsCharBoundary MARGIN.now at
cut_margin at le = IsCharBoundary-from_ascii MARGIN.now at margin_ascii (omega (arith, le))

-- ---- spaces

drop_blank : (some more : ℕ) (tail : List ℕ) → drop some (blank (some + more) ++ tail) ≡ blank more ++ tail
drop_blank zero more tail = let same : 0 + more ≡ more = omega arith in ap (λ (n : ℕ). blank n ++ tail) same
drop_blank (suc some) more tail =
    let same : suc some + more ≡ suc (some + more) = omega arith in
    ap (λ (n : ℕ). drop (suc some) (blank n ++ tail)) same ∙ drop_blank some more tail

-- The margin of a row ends with spaces and ` # `.
pub margin_ends : (some : ℕ) → some ≤ 36 → drop (36 - some) MARGIN.now ≡ blank some ++ codes " # "
margin_ends some le =
    let all : 36 - some + some ≡ 36 = omega (arith, le) in
    ap (λ (n : ℕ). drop (36 - some) (blank n ++ codes " # ")) (sym all) ∙ drop_blank (36 - some) some (codes " # ")

-- ---- characters that stand for themselves

one_plain : (c : ℕ) → 32 ≤ c → c < 127 → c ≢ 34 → c ≢ 92 → character_text c ≡ c ∷ []
one_plain c low high quote back = grind (arith, nat_tests, encode_ascii)

plain_texts : (xs : List ℕ) → AreUnescaped xs → characters_text xs ≡ xs
plain_texts [] plain = refl
plain_texts (x ∷ xs) plain =
    let first = plain 0 (omega arith) in
    rw (one_plain x first.0 first.1 first.2 first.3, plain_texts xs (rest_unescaped x xs plain)) refl

pub plain_shown : (text : List ℕ) → AreUnescaped text → text ≡ characters_text (chars text)
plain_shown text plain = sym (ap characters_text (chars-IsAscii text (unescaped_ascii text plain)) ∙ plain_texts text plain)
