-- Items that take no level, by their first bytes.
use Rattle.std.proofs.Common.{◌≡◌, ℕ, zero, suc, ◌+◌, ◌-◌, ◌/◌, ◌%◌, ◌<◌, ◌≤◌, ◌^◌, ◌⊎◌, inl, inr, List, [], ◌∷◌}
use Rattle.std.proofs.Common.{◌++◌, append_assoc, subst, ◌&&◌, ◌||◌, Bool, true, false, eqb, ltb, get_or, length, take, drop, slice_index}
use Rattle.std.proofs.Common.{refl, sym, ap, ◌∙◌, arith, append-nil, length-drop}
use Rattle.std.proofs.lemmas.Bool.{agree_below_at}
use Rattle.std.proofs.lemmas.Bool.Decides.{nat_tests}
use Rattle.std.proofs.lemmas.List.{length-take-le, take-append-drop}
use Rattle.std.proofs.Math.Seq.{take-add}
use Rattle.std.specs.Int.{to_be_bytes, w8, w16, w32, w64}
use Rattle.ciborium_ll_text.specs.Text.{IsCharacters}
use Rattle.ciborium_ll_grammar.specs.declared.hdr.Header.{Header}
use Rattle.ciborium_ll_grammar.specs.declared.hdr.Header.TheVariants as h
use Rattle.ciborium_ll_grammar.specs.declared.hdr.Float.TheVariants as f
use Rattle.ciborium_ll_grammar.specs.Parts.{refused_when_strict}
use Rattle.ciborium_ll_grammar.specs.Title.{Size, Small, One, Two, Four, Eight, size_limit, minor_of, affix_of}
use Rattle.ciborium_ll_grammar.specs.Title.{Unsigned, Negative, ByteString, TextString, Other, first_byte, numbered}
use Rattle.ciborium_ll_grammar.specs.Title.{numbered_title}
use Rattle.ciborium_ll_grammar.proofs.LongerLaws.{minor_as, taken}
use Rattle.cbor_deterministic.specs.declared.Order.{Order}
use Rattle.cbor_deterministic.specs.declared.flat.TheConstants.{LENS}
use Rattle.cbor_deterministic.specs.Deterministic.{Completes, positive, negative, simple, float, byte_string}
use Rattle.cbor_deterministic.specs.Deterministic.{text_string, IsDeterministic, item, AreDeterministic, no_items, more_items}
use Rattle.cbor_deterministic.specs.Flat.{AreFlatItems, IsFlatItem, IsLen}
use Rattle.cbor_deterministic.specs.Fronts.{InFront}
use Rattle.cbor_deterministic.specs.Preferred.{IsPreferredTitle, IsWideFloat}

-- ---- the table

abbrev len_test : ℕ → ℕ → Bool
len_test first len =
    eqb len 0
    || ((eqb len 1 && (ltb (first % 32) 24 && (ltb (first / 32) 2 || eqb (first / 32) 7)))
    || (eqb len (1 + first % 32) && (ltb (first % 32) 24 && (eqb (first / 32) 2 || eqb (first / 32) 3))))

len_tells : (first len : ℕ) → len_test first len ≡ true → IsLen first len
len_tells first len e = grind (arith, nat_tests)

-- The table has a true number for each of the 256 first bytes.
pub len_says : (first len : ℕ) → first < 256 → len ≡ get_or LENS first 0 → IsLen first len
len_says first len l len_is =
    let passes = agree_below_at (λ (b : ℕ). len_test b (get_or LENS b 0)) (λ (b : ℕ). true) 256 first refl l in
    len_tells first len (ap (λ (z : ℕ). len_test first z) len_is ∙ passes)

-- ---- integers, simple values and floats

below_two : (n : ℕ) → n < 2 → (n ≡ 0) ⊎ (n ≡ 1)
below_two zero low = inl refl
below_two (suc zero) low = inr refl
below_two (suc (suc n)) low = absurd (omega (arith, low))

-- No smaller size holds a number that this size holds.
abbrev IsLeast : Size → ℕ → Type 0
IsLeast s n = (k : ℕ) → k < 7 → refused_when_strict k (minor_as s n) ≡ false

least_small : (n : ℕ) → IsLeast Small n
least_small n k low = refl

pub least_one : (n : ℕ) → 24 ≤ n → IsLeast One n
least_one n least k low = grind (arith, nat_tests)

pub least_two : (n : ℕ) → 2 ^ 8 ≤ n → IsLeast Two n
least_two n least k low = grind (arith, nat_tests)

pub least_four : (n : ℕ) → 2 ^ 16 ≤ n → IsLeast Four n
least_four n least k low = grind (arith, nat_tests)

pub least_eight : (n : ℕ) → 2 ^ 32 ≤ n → IsLeast Eight n
least_eight n least k low = grind (arith, nat_tests)

-- A preferred title is an item, if no bytes have to follow it.
alone_item : (title : List ℕ) (header : Header) → IsPreferredTitle title header
    → ((order : Order) (depth : ℕ) → Completes order depth header []) → IsFlatItem title
alone_item title header is ends order depth = rw (append-nil title) at (item is (ends order depth))

positive_item : (s : Size) (n : ℕ) → n < size_limit s → IsLeast s n → IsFlatItem (numbered_title Unsigned s n)
positive_item s n fits least = alone_item (numbered_title Unsigned s n) (h.Positive n) (record {
  is_title = numbered Unsigned s n fits;
  strict = taken Unsigned s n fits (least 0 (omega arith));
  definite = λ none. none;
  narrow = λ none. none;
}) (λ order depth. positive)

negative_item : (s : Size) (n : ℕ) → n < size_limit s → IsLeast s n → IsFlatItem (numbered_title Negative s n)
negative_item s n fits least = alone_item (numbered_title Negative s n) (h.Negative n) (record {
  is_title = numbered Negative s n fits;
  strict = taken Negative s n fits (least 1 (omega arith));
  definite = λ none. none;
  narrow = λ none. none;
}) (λ order depth. negative)

simple_item : (n : ℕ) → n < 24 → IsFlatItem (numbered_title Other Small n)
simple_item n fits = alone_item (numbered_title Other Small n) (h.Simple n) (record {
  is_title = numbered Other Small n fits;
  strict = taken Other Small n fits refl;
  definite = λ none. none;
  narrow = λ none. none;
}) (λ order depth. simple)

half_item : (n : ℕ) → n < 2 ^ 16 → IsFlatItem (numbered_title Other Two n)
half_item n fits = alone_item (numbered_title Other Two n) (h.Float (f.Half n)) (record {
  is_title = numbered Other Two n fits;
  strict = taken Other Two n fits refl;
  definite = λ none. none;
  narrow = λ none. none;
}) (λ order depth. float)

single_item : (n : ℕ) → n < 2 ^ 32 → (IsWideFloat (f.Single n) → ⊥) → IsFlatItem (numbered_title Other Four n)
single_item n fits narrow = alone_item (numbered_title Other Four n) (h.Float (f.Single n)) (record {
  is_title = numbered Other Four n fits;
  strict = taken Other Four n fits refl;
  definite = λ none. none;
  narrow = narrow;
}) (λ order depth. float)

double_item : (n : ℕ) → n < 2 ^ 64 → (IsWideFloat (f.Double n) → ⊥) → IsFlatItem (numbered_title Other Eight n)
double_item n fits narrow = alone_item (numbered_title Other Eight n) (h.Float (f.Double n)) (record {
  is_title = numbered Other Eight n fits;
  strict = taken Other Eight n fits refl;
  definite = λ none. none;
  narrow = narrow;
}) (λ order depth. float)

integer_item : (b : ℕ) (s : Size) (n : ℕ) → (b / 32 ≡ 0) ⊎ (b / 32 ≡ 1) → b % 32 ≡ minor_of s n → n < size_limit s
    → IsLeast s n → IsFlatItem (b ∷ affix_of s n)
integer_item b s n (inl unsigned) minor fits least =
    let head : first_byte Unsigned (minor_of s n) ≡ b = omega (arith, unsigned, minor) in
    rw head at (positive_item s n fits least)
integer_item b s n (inr below) minor fits least =
    let head : first_byte Negative (minor_of s n) ≡ b = omega (arith, below, minor) in
    rw head at (negative_item s n fits least)

-- ---- strings

bytes_item : (s : Size) (n : ℕ) (body : List ℕ) → n < size_limit s → IsLeast s n → length body ≡ n
    → IsFlatItem (numbered_title ByteString s n ++ body)
bytes_item s n body fits least long order depth = item (record {
  is_title = numbered ByteString s n fits;
  strict = taken ByteString s n fits (least 2 (omega arith));
  definite = λ none. none;
  narrow = λ none. none;
}) (byte_string long)

text_item : (s : Size) (n : ℕ) (body : List ℕ) → n < size_limit s → IsLeast s n → length body ≡ n → IsCharacters body
    → IsFlatItem (numbered_title TextString s n ++ body)
text_item s n body fits least long text order depth = item (record {
  is_title = numbered TextString s n fits;
  strict = taken TextString s n fits (least 3 (omega arith));
  definite = λ none. none;
  narrow = λ none. none;
}) (text_string long text)

string_item : (b : ℕ) (s : Size) (n : ℕ) (body : List ℕ) → (b / 32 ≡ 2) ⊎ (b / 32 ≡ 3) → b % 32 ≡ minor_of s n
    → n < size_limit s → IsLeast s n → length body ≡ n → (b / 32 ≡ 3 → IsCharacters body)
    → IsFlatItem ((b ∷ affix_of s n) ++ body)
string_item b s n body (inl two) minor fits least long text =
    let head : first_byte ByteString (minor_of s n) ≡ b = omega (arith, two, minor) in
    rw head at (bytes_item s n body fits least long)
string_item b s n body (inr three) minor fits least long text =
    let head : first_byte TextString (minor_of s n) ≡ b = omega (arith, three, minor) in
    rw head at (text_item s n body fits least long (text three))

-- ---- the beginning of bytes

front_at : (n : ℕ) (xs : List ℕ) → 0 < length xs → take (suc n) xs ≡ slice_index xs 0 ∷ take n (drop 1 xs)
front_at n [] some = absurd (omega (arith, some))
front_at n (x ∷ xs) some = refl

-- Bytes of the length in the table are an item, if a text's body is UTF-8.
pub flat_by : (xs : List ℕ) (len : ℕ) → 0 < length xs → IsLen (slice_index xs 0) len → 0 < len → len ≤ length xs
    → (slice_index xs 0 / 32 ≡ 3 → IsCharacters (take (len - 1) (drop 1 xs))) → IsFlatItem (take len xs)
flat_by [] len some is least le text = absurd (omega (arith, some))
flat_by (b ∷ xs) len some (inl none) least le text = absurd (omega (arith, none, least))
flat_by (b ∷ xs) len some (inr (inl v)) least le text = elim v.2 [
  | inl low ↦ (
      let major : (b / 32 ≡ 0) ⊎ (b / 32 ≡ 1) = below_two (b / 32) low in
      rw v.0 (integer_item b Small (b % 32) major refl v.1 (least_small (b % 32)))
      )
  | inr seven ↦ (
      let head : first_byte Other (b % 32) ≡ b = omega (arith, seven) in
      rw v.0 (rw head at (simple_item (b % 32) v.1))
      )
]
flat_by (b ∷ xs) len some (inr (inr v)) least le text =
    let n = b % 32 in
    let e : len ≡ suc n = omega (arith, v.0) in
    let body : len - 1 ≡ n = omega (arith, e) in
    rw e (string_item b Small n (take n xs) v.2 refl v.1 (least_small n) (length-take-le n xs (omega (arith, e, le)))
    (λ three. rw body at (text three)))

module _ (xs : List ℕ) (some : 0 < length xs) where
  -- A title with an affix, of an integer.
  pub long_integer : (s : Size) (n len : ℕ) → slice_index xs 0 < 64 → slice_index xs 0 % 32 ≡ minor_of s n
      → n < size_limit s → IsLeast s n → affix_of s n ≡ take len (drop 1 xs) → IsFlatItem (take (suc len) xs)
  long_integer s n len low minor fits least affix =
      rw (front_at len xs some, ← affix)
      (integer_item (slice_index xs 0) s n (below_two (slice_index xs 0 / 32) (omega (arith, low))) minor fits least)

  pub long_half : (n : ℕ) → slice_index xs 0 ≡ 0xf9 → n < 2 ^ 16 → to_be_bytes w16 n ≡ take 2 (drop 1 xs)
      → IsFlatItem (take 3 xs)
  long_half n first fits affix = rw (front_at 2 xs some, first, ← affix) (half_item n fits)

  pub long_single : (n : ℕ) → slice_index xs 0 ≡ 0xfa → n < 2 ^ 32 → (IsWideFloat (f.Single n) → ⊥)
      → to_be_bytes w32 n ≡ take 4 (drop 1 xs) → IsFlatItem (take 5 xs)
  long_single n first fits narrow affix = rw (front_at 4 xs some, first, ← affix) (single_item n fits narrow)

  pub long_double : (n : ℕ) → slice_index xs 0 ≡ 0xfb → n < 2 ^ 64 → (IsWideFloat (f.Double n) → ⊥)
      → to_be_bytes w64 n ≡ take 8 (drop 1 xs) → IsFlatItem (take 9 xs)
  long_double n first fits narrow affix = rw (front_at 8 xs some, first, ← affix) (double_item n fits narrow)

-- A string with its length in the byte after the first one.
pub long_string : (xs : List ℕ) (n : ℕ) → 1 < length xs
    → (slice_index xs 0 ≡ 0x58) ⊎ ((slice_index xs 0 ≡ 0x78) × IsCharacters (take (2 + n - 2) (drop 2 xs)))
    → n < 2 ^ 8 → 24 ≤ n → 2 + n ≤ length xs → to_be_bytes w8 n ≡ take 1 (drop 1 xs) → IsFlatItem (take (2 + n) xs)
long_string xs n some kind fits least le affix =
    let body = take n (drop 2 xs) in
    let long : length body ≡ n = length-take-le n (drop 2 xs) (omega (arith, length-drop 2 xs, le)) in
    let back : 2 + n - 2 ≡ n = omega arith in
    let parts : take (2 + n) xs ≡ (slice_index xs 0 ∷ affix_of One n) ++ body =
    take-add 2 n xs ∙ ap (λ (z : List ℕ). z ++ body) (front_at 1 xs (omega (arith, some)) ∙ ap (λ (z : List ℕ). slice_index xs 0 ∷ z) (sym affix)) in
    rw parts (elim kind [
      | inl bytes ↦ string_item (slice_index xs 0) One n body (inl (omega (arith, bytes))) (omega (arith, bytes)) fits
          (least_one n least) long (λ three. absurd (omega (arith, bytes, three)))
      | inr text ↦ string_item (slice_index xs 0) One n body (inr (omega (arith, text.0))) (omega (arith, text.0)) fits
          (least_one n least) long (λ three. rw back at text.1)
    ])

-- ---- items one after another

-- One more item follows the items before.
at_end : (order : Order) (depth n : ℕ) (xs ys : List ℕ) → AreDeterministic order depth n xs
    → IsDeterministic order depth ys → AreDeterministic order depth (suc n) (xs ++ ys)
at_end order depth n xs ys no_items i =
    subst (λ (z : List ℕ). AreDeterministic order depth 1 z) (append-nil ys) (more_items i no_items)
at_end order depth n xs ys (more_items {count = m} {first = f} {others = o} j js) i =
    subst (λ (z : List ℕ). AreDeterministic order depth (suc (suc m)) z) (sym (append_assoc f o ys))
    (more_items j (at_end order depth m o ys js i))

pub flat_none : (most : ℕ) → AreFlatItems (most - most) []
flat_none most order depth =
    let none : 0 ≡ most - most = omega arith in
    subst (λ (n : ℕ). AreDeterministic order depth n []) none no_items

pub flat_more : (xs : List ℕ) (most left at len : ℕ) → 0 < left → left ≤ most
    → AreFlatItems (most - left) (take at xs) → IsFlatItem (take len (drop at xs))
    → AreFlatItems (most - (left - 1)) (take (at + len) xs)
flat_more xs most left at len some fits are is order depth =
    let count : suc (most - left) ≡ most - (left - 1) = omega (arith, some, fits) in
    rw (take-add at len xs) (rw count at
    (at_end order depth (most - left) (take at xs) (take len (drop at xs)) (are order depth) (is order depth)))

-- ---- the rest after an item

pub flat_front : (order : Order) (depth len : ℕ) (xs : List ℕ) → IsFlatItem (take len xs)
    → InFront (IsDeterministic order depth) xs (drop len xs)
flat_front order depth len xs is = record {
  front = take len xs;
  is = is order depth;
  whole = sym (take-append-drop len xs);
}
