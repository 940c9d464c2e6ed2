-- The highest bits of the bytes of a word: if no bit that counts is set, these bytes are ASCII.
use Rattle.std.proofs.Common.{◌≡◌, ℕ, zero, suc, ◌+◌, ◌-◌, ◌*◌, ◌/◌, ◌%◌, ◌<◌, ◌≤◌, Bool, true, List, [], ◌∷◌, ◌&&◌}
use Rattle.std.proofs.Common.{◌||◌, eqb, leb, get_or, length, length-drop, drop, take, slice_index, refl, ap, arith}
use Rattle.std.proofs.Common.{bit_and, bit_or}
use Rattle.std.proofs.lemmas.Bool.{agree_below_at}
use Rattle.std.proofs.lemmas.List.{get_or-drop, get_or-take, get_or_past, length-take-le}
use Rattle.std.proofs.lemmas.Bool.Decides.{nat_tests}
use Rattle.std.proofs.lemmas.Nat.{and_le_l, and_le_r}
use Rattle.std.proofs.lemmas.Nat.Bits.{bit_at_and, bit_at-zero}
use Rattle.std.specs.Int.{bit_at, to_le_bytes, w64}
use Rattle.std.specs.Int.Bits.{or_add_and}
use Rattle.std.specs.Str.{IsAscii}
use Rattle.cbor_checker.specs.declared.plain.TheConstants.{HIGH_BITS, OTHER_BITS}

-- ---- the table

abbrev bit_test : ℕ → ℕ → Bool
bit_test number j =
    (leb number (j + 16) || eqb (bit_at (get_or HIGH_BITS number 0) (8 * j + 7)) 1)
    && (leb (suc (j + 16)) number || eqb (bit_at (get_or OTHER_BITS number 0) (8 * j + 7)) 1)

-- The test holds for each number below 33 with each of eight bytes.
bits_say : (number j : ℕ) → number < 33 → j < 8 → bit_test number j ≡ true
bits_say number j less lt =
    let row : (8 * number + j) / 8 ≡ number = omega (arith, lt) in
    let column : (8 * number + j) % 8 ≡ j = omega (arith, lt) in
    rw (row, column) at (agree_below_at (λ b. bit_test (b / 8) (b % 8)) (λ b. true) 264 (8 * number + j) refl
    (omega (arith, less, lt)))

-- ---- a byte of a word whose highest bit is not set

clear_by : (word mask other i : ℕ) → bit_and (bit_and word mask) other ≡ 0 → bit_at mask i ≡ 1 → bit_at other i ≡ 1
    → bit_at word i ≡ 0
clear_by word mask other i none set too =
    let outer : bit_at (bit_and (bit_and word mask) other) i ≡ 0 = rw none (bit_at-zero i) in
    omega (arith, bit_at_and word mask i, bit_at_and (bit_and word mask) other i)

-- ---- eight bytes of a list

abbrev pub eight : List ℕ → ℕ → List ℕ
eight xs at =
    slice_index xs at ∷ slice_index xs (at + 1) ∷ slice_index xs (at + 2) ∷ slice_index xs (at + 3)
    ∷ slice_index xs (at + 4) ∷ slice_index xs (at + 5) ∷ slice_index xs (at + 6) ∷ slice_index xs (at + 7) ∷ []

-- Eight bytes of a list are bytes if all numbers of the list are.
pub eight_bytes : (xs : List ℕ) (at : ℕ) → ((i : ℕ) → get_or xs i 0 < 256) → (i : ℕ) → get_or (eight xs at) i 0 < 256
eight_bytes xs at below (suc (suc (suc (suc (suc (suc (suc (suc i)))))))) = omega arith
eight_bytes xs at below zero = below at
eight_bytes xs at below i = below (at + i)

pub low_in : (word mask other from until : ℕ) (xs : List ℕ) (at : ℕ) → bit_and (bit_and word mask) other ≡ 0
    → mask ≡ get_or HIGH_BITS until 0 → other ≡ get_or OTHER_BITS from 0 → from < 33 → until < 33
    → to_le_bytes w64 word ≡ eight xs at → (j : ℕ) → j < 8 → from ≤ j + 16 → j + 16 < until
    → slice_index xs (at + j) < 128
low_in word mask other from until xs at none mask_is other_is first last same j lt least most =
    let set = bits_say until j last lt in
    let too = bits_say from j first lt in
    low j lt (clear_by word mask other (8 * j + 7) none (rw mask_is (grind (arith, nat_tests)))
    (rw other_is (grind (arith, nat_tests))))
  where
    low : (j : ℕ) → j < 8 → bit_at word (8 * j + 7) ≡ 0 → slice_index xs (at + j) < 128
    low (suc (suc (suc (suc (suc (suc (suc (suc j)))))))) lt c = absurd (omega (arith, lt))
    low zero lt c =
        let here : at + 0 ≡ at = omega arith in
        rw here (omega (arith, c, ap (λ (z : List ℕ). slice_index z 0) same))
    low j lt c = omega (arith, c, ap (λ (z : List ℕ). slice_index z j) same)

-- ---- two words

pub none_set : (a b : ℕ) → bit_or a b ≡ 0 → (a ≡ 0) × (b ≡ 0)
none_set a b e = omega (arith, or_add_and a b, and_le_l a b, and_le_r a b)

-- A part of up to 16 bytes, after the first `before`, is ASCII if both words have no high bit in the bytes of this part.
pub part_ascii : (xs : List ℕ) (start before len : ℕ) → start + before + len ≤ length xs → before + len ≤ 16
    → ((j : ℕ) → j < 8 → before + 16 ≤ j + 16 → j + 16 < before + len + 16 → slice_index xs (start + j) < 128)
    → ((j : ℕ) → j < 8 → before + 8 ≤ j + 16 → j + 16 < before + len + 8 → slice_index xs (start + 8 + j) < 128)
    → IsAscii (take len (drop (start + before) xs))
part_ascii xs start before len le few one two = λ i.
    let sum : start + (before + i) ≡ start + before + i = omega arith in
    let other : 8 ≤ before + i → start + 8 + (before + i - 8) ≡ start + before + i = λ l. omega (arith, l) in
    let low = one (before + i) in
    let high = two (before + i - 8) in
    grind (arith, get_or-take, get_or-drop, get_or_past, length-take-le, length-drop)
