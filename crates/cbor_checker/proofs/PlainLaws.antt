-- Plain items: the table's entries for first bytes, and the spots that plain items lead to.
use Rattle.std.proofs.Common.{◌≡◌, ℕ, suc, ◌+◌, ◌-◌, ◌*◌, ◌/◌, ◌%◌, ◌<◌, ◌≤◌, ◌^◌, Bool, true, false, List, [], ◌∷◌}
use Rattle.std.proofs.Common.{◌&&◌, ◌||◌, eqb, ltb, get_or, length, take, drop, slice_index, refl, sym, ap, ◌∙◌, arith}
use Rattle.std.proofs.Common.{add-zero, inl, inr, None}
use borrow.Author.Tests.{le-ltb, lt-ltb}
use Rattle.std.proofs.lemmas.Bool.{agree_below_at, and_parts}
use Rattle.std.proofs.lemmas.Bool.Decides.{nat_tests}
use Rattle.std.proofs.lemmas.List.{length-take-le}
use Rattle.std.proofs.Math.Seq.{take-add}
use Rattle.ciborium_ll_text.proofs.Lists.{Below}
use Rattle.ciborium_ll_text.specs.declared.state.State.TheVariants as s
use Rattle.ciborium_ll_text.specs.declared.state.State.{State}
use Rattle.ciborium_ll_text.specs.States.{after}
use Rattle.ciborium_ll_text.specs.Text.{IsFront}
use Rattle.ciborium_ll_text.proofs.StateLaws.{after-append, text_ends}
use Rattle.ciborium_ll_grammar.specs.declared.spelling.Spelling.{Spelling}
use Rattle.ciborium_ll_grammar.specs.declared.spelling.Spelling.TheVariants.{Any, Shortest}
use Rattle.ciborium_ll_grammar.specs.declared.hdr.table.TitleKind.TheVariants as k
use Rattle.ciborium_ll_grammar.specs.Title.{IsTitle, Major, Unsigned, Negative, ByteString, TextString, Other, Size}
use Rattle.ciborium_ll_grammar.specs.Title.{Small, One, NamesNoTitle, affix_len, major_code, numbered, numbered_header}
use Rattle.ciborium_ll_grammar.specs.Title.{numbered_title, size_limit}
use Rattle.ciborium_ll_grammar.specs.Items.{IsTakenTitle}
use Rattle.ciborium_ll_grammar.specs.TitleRows.{NamesTitle}
use Rattle.ciborium_ll_grammar.specs.Parts.{refused_when_strict}
use Rattle.ciborium_ll_grammar.proofs.LongerLaws.{minor_as, taken}
use Rattle.ciborium_ll_grammar.proofs.TitleKinds.{kind_names, kind_of}
use Rattle.cbor_parser.specs.declared.strings.Within.TheVariants as w
use Rattle.cbor_checker.specs.declared.plain.TheConstants.{LENS}
use Rattle.cbor_checker.specs.Blocked.{blocked, is_single}
use Rattle.cbor_checker.specs.Plain.{ArePlain, IsPlacedItem, IsPlainItem, IsSpan, IsValueMajor, more}
use Rattle.cbor_checker.specs.Spots.{Spot, item_done, item_entered}
use Rattle.cbor_checker.proofs.ItemLeads.{bytes_item, one_long, text_item, title_item, value_item}

-- ---- the table

abbrev value_test : ℕ → Bool
value_test major = eqb major 0 || (eqb major 1 || eqb major 7)

abbrev item_test : ℕ → ℕ → ℕ → Bool
item_test first len text_len =
    eqb len 0
    || ((eqb len 1 && (ltb (first % 32) 24 && value_test (first / 32)))
    || ((eqb len (1 + first % 32) && (ltb (first % 32) 24 && eqb (first / 32) 2))
    || ((eqb len (1 + affix_len (first % 32)) && (ltb 0 (affix_len (first % 32)) && (ltb 23 (first % 32)
    && (ltb (first % 32) 28 && value_test (first / 32)))))
    || ((eqb len (1 + first % 32) && (ltb (first % 32) 24 && eqb (first / 32) 3)) && eqb text_len (first % 32)))))

abbrev span_test : ℕ → ℕ → ℕ → Bool
span_test first len text_len =
    item_test first len text_len && ((eqb len 0 || ltb text_len len) && ltb len 25)

item_tells : (first len text_len : ℕ) → item_test first len text_len ≡ true → IsSpan first len text_len
item_tells first len text_len e = grind (arith, nat_tests)

span_tells : (first len text_len : ℕ) → span_test first len text_len ≡ true
    → IsSpan first len text_len × ((0 < len → text_len < len) × (len ≤ 24))
span_tells first len text_len both =
    let parts = and_parts (item_test first len text_len) _ both in
    let ends = and_parts (eqb len 0 || ltb text_len len) _ parts.1 in
    let less = ends.0 in
    let most = ends.1 in
    (item_tells first len text_len parts.0, (grind (arith, nat_tests), grind (arith, nat_tests)))

-- The table has a true entry for each of the 256 first bytes.
pub span_says : (first len text_len : ℕ) → first < 256 → len ≡ get_or LENS first 0
    → text_len ≡ get_or LENS (256 + first) 0 → IsSpan first len text_len × ((0 < len → text_len < len) × (len ≤ 24))
span_says first len text_len l len_is text_len_is =
    let passes = agree_below_at (λ (b : ℕ). span_test b (get_or LENS b 0) (get_or LENS (256 + b) 0)) (λ (b : ℕ). true)
    256 first refl l in
    span_tells first len text_len (ap (λ (z : ℕ). span_test first z text_len) len_is
    ∙ (ap (λ (z : ℕ). span_test first (get_or LENS first 0) z) text_len_is ∙ passes))

-- ---- titles of one and of two bytes

-- A number below the limit of its size has a title of that size. If no smaller size fits, a strict checker takes that
-- title.
numbered_taken : (allowed : Spelling) (t : List ℕ) (major : Major) (size : Size) (n : ℕ)
    → t ≡ numbered_title major size n
    → n < size_limit size → refused_when_strict (major_code major) (minor_as size n) ≡ false
    → IsTitle t (numbered_header major size n) × IsTakenTitle allowed t (numbered_header major size n)
numbered_taken Any t major size n e fits short = rw e (numbered major size n fits, tt)
numbered_taken Shortest t major size n e fits short = rw e (numbered major size n fits, taken major size n fits short)

pub one_taken : (allowed : Spelling) (b n : ℕ) (major : Major) → b ≡ 32 * major_code major + n → n < 24
    → IsTitle (b ∷ []) (numbered_header major Small n) × IsTakenTitle allowed (b ∷ []) (numbered_header major Small n)
one_taken allowed b n major e small = numbered_taken allowed (b ∷ []) major Small n (rw e refl) small refl

take_two : (xs : List ℕ) → 1 < length xs → take 2 xs ≡ slice_index xs 0 ∷ slice_index xs 1 ∷ []
take_two xs some = grind (arith, nat_tests)

two_taken : (allowed : Spelling) (xs : List ℕ) (major : Major) → 1 < length xs
    → slice_index xs 0 ≡ 32 * major_code major + 24 → slice_index xs 1 < 256
    → refused_when_strict (major_code major) (minor_as One (slice_index xs 1)) ≡ false
    → IsTitle (take 2 xs) (numbered_header major One (slice_index xs 1))
    × IsTakenTitle allowed (take 2 xs) (numbered_header major One (slice_index xs 1))
two_taken allowed xs major some e fits short =
    let same : slice_index xs 1 % 256 ≡ slice_index xs 1 = omega (arith, fits) in
    let parts : take 2 xs ≡ numbered_title major One (slice_index xs 1) = rw (take_two xs some, same, e) refl in
    numbered_taken allowed (take 2 xs) major One (slice_index xs 1) parts fits short

-- ---- the item of a first byte, by the numbers in the tables

-- A byte with a minor below 28 names a title.
named : (b : ℕ) → b % 32 < 28 → NamesNoTitle (b / 32) (b % 32) → ⊥
named b less none = grind (arith, nat_tests)

strings_free : (d place : ℕ) → (blocked w.Nothing d place k.Bytes ≡ None) × (blocked w.Nothing d place k.Text ≡ None)
strings_free d place = grind (arith, nat_tests)

-- The major type of a number, a float or a simple value.
record ValueMajor (code : ℕ) : Type 0 where
  major : Major
  is : major_code major ≡ code
  value : is_single (kind_of major) ≡ true
  ends : (n : ℕ) (u : Spot) → item_entered (numbered_header major Small n) u ≡ item_done u

major_of : (code : ℕ) → IsValueMajor code → ValueMajor code
major_of code (inl e) = record { major = Unsigned; is = sym e; value = refl; ends = λ n u. refl }
major_of code (inr (inl e)) = record { major = Negative; is = sym e; value = refl; ends = λ n u. refl }
major_of code (inr (inr e)) = record { major = Other; is = sym e; value = refl; ends = λ n u. refl }

-- Bytes of the length in the table are a plain item, if a text's body is text. A longer title needs a checker that is
-- not strict.
pub span_plain : (xs : List ℕ) (len text_len : ℕ) (allowed : Spelling) → Below xs → 0 < length xs
    → IsSpan (slice_index xs 0) len text_len → 0 < len → len ≤ length xs → (24 ≤ slice_index xs 0 % 32 → allowed ≡ Any)
    → s.Between ≡ after s.Between (take text_len (drop 1 xs)) → IsPlainItem allowed (take len xs)
span_plain [] len text_len allowed below some is least le any text = absurd (omega arith)
span_plain (b ∷ xs) len text_len allowed below some (inl none) least le any text = absurd (omega (arith, none, least))
span_plain (b ∷ xs) len text_len allowed below some (inr (inl v)) least le any text =
    let m = major_of (b / 32) v.2 in
    title_item (b ∷ xs) len allowed (numbered_header m.major Small (b % 32)) below least le
    (λ more. absurd (omega (arith, more, v.0))) (rw v.0 (one_taken allowed b (b % 32) m.major (omega arith) v.1))
    (m.ends (b % 32))
span_plain (b ∷ xs) len text_len allowed below some (inr (inr (inl v))) least le any text =
    bytes_item (b ∷ xs) 1 (b % 32) len allowed below (omega arith) v.0 le (λ more. absurd (omega (arith, more)))
    (one_taken allowed b (b % 32) ByteString (omega (arith, v.2)) v.1)
span_plain (b ∷ xs) len text_len allowed below some (inr (inr (inr (inl v)))) least le any text =
    let m = major_of (b / 32) v.4 in
    rw (any v.2) (value_item (b ∷ xs) len (kind_of m.major) below m.value (omega (arith, v.0, v.1)) le v.0
    (kind_names m.major (b / 32) (b % 32) m.is (named b v.3)))
span_plain (b ∷ xs) len text_len allowed below some (inr (inr (inr (inr v)))) least le any text =
    let title = one_taken allowed b (b % 32) TextString (omega (arith, v.2)) v.1 in
    text_item (b ∷ xs) 1 (b % 32) len allowed below (omega arith) v.0 le (λ more. absurd (omega (arith, more))) title
    (one_long (b ∷ []) (b % 32) title.0 refl) (rw v.3 at text)

-- A text whose first byte gives its length is a plain item.
pub short_text : (xs : List ℕ) (len : ℕ) (allowed : Spelling) → Below xs → 0 < length xs → slice_index xs 0 / 32 ≡ 3
    → slice_index xs 0 % 32 < 24 → len ≡ 1 + slice_index xs 0 % 32 → len ≤ length xs
    → s.Between ≡ after s.Between (take (len - 1) (drop 1 xs)) → IsPlainItem allowed (take len xs)
short_text xs len allowed below some major small is le text =
    let body : len - 1 ≡ slice_index xs 0 % 32 = omega (arith, is) in
    span_plain xs len (slice_index xs 0 % 32) allowed below some (inr (inr (inr (inr (is, small, major, refl)))))
    (omega (arith, is)) le (λ high. absurd (omega (arith, high, small))) (rw body at text)

-- ---- a string whose length is in the byte after the first

module _ (xs : List ℕ) (len : ℕ) (allowed : Spelling) (below : Below xs) (some : 1 < length xs)
    (least : 24 ≤ slice_index xs 1) (e : len ≡ 2 + slice_index xs 1) (le : len ≤ length xs) where
  pub long_bytes : slice_index xs 0 ≡ 88 → IsPlainItem allowed (take len xs)
  long_bytes is =
      let known : NamesTitle 2 (slice_index xs 0 / 32) (slice_index xs 0 % 32) =
      (omega (arith, is), named (slice_index xs 0) (omega (arith, is))) in
      bytes_item xs 2 (slice_index xs 1) len allowed below (omega arith) e le
      (λ more d place. record { kind = k.Bytes; is = known; free = (strings_free d place).0 })
      (two_taken allowed xs ByteString some is (below 1 some) (le-ltb (slice_index xs 1) 24 least))

  pub long_text : slice_index xs 0 ≡ 120 → s.Between ≡ after s.Between (take (len - 2) (drop 2 xs))
      → IsPlainItem allowed (take len xs)
  long_text is text =
      let c = slice_index xs 1 in
      let known : NamesTitle 3 (slice_index xs 0 / 32) (slice_index xs 0 % 32) =
      (omega (arith, is), named (slice_index xs 0) (omega (arith, is))) in
      let long : c < 2 ^ 8 = omega (arith, below 1 some) in
      let less : len - 2 ≡ c = omega (arith, e) in
      text_item xs 2 c len allowed below (omega arith) e le
      (λ more d place. record { kind = k.Text; is = known; free = (strings_free d place).1 })
      (two_taken allowed xs TextString some is (below 1 some) (le-ltb c 24 least))
      (rw (le-ltb c 24 least, lt-ltb c (2 ^ 8) long) refl) (rw less at text)

-- ---- items one after another

-- A plain item has no tag.
pub without_tag : (allowed : Spelling) (tags : Bool) (item : List ℕ) → IsPlainItem allowed item
    → IsPlacedItem allowed tags 0 item
without_tag allowed tags item plain = λ s at clear none same deep. rw (add-zero s.offset) (plain s at clear none same)

-- One more item follows the items before.
pub placed_more : (allowed : Spelling) (tags : Bool) (offset first last most left at start len place : ℕ) (xs : List ℕ)
    → at ≤ length xs → 0 < left → left ≤ most → ArePlain allowed tags offset first (most - left) last (take at xs)
    → IsPlacedItem allowed tags start (take len (drop at xs)) → place ≡ offset + at + start
    → ArePlain allowed tags offset first (most - (left - 1)) place (take (at + len) xs)
placed_more allowed tags offset first last most left at start len place xs le some fits so_far one is =
    let count : suc (most - left) ≡ most - (left - 1) = omega arith in
    rw (take-add at len xs, is) (rw (count, length-take-le at xs le) at (more start so_far one))

-- One more plain item follows the items before.
pub plain_more : (allowed : Spelling) (tags : Bool) (offset first last most left at len : ℕ) (xs : List ℕ)
    → at ≤ length xs → 0 < left → left ≤ most → ArePlain allowed tags offset first (most - left) last (take at xs)
    → IsPlainItem allowed (take len (drop at xs))
    → ArePlain allowed tags offset first (most - (left - 1)) (offset + at) (take (at + len) xs)
plain_more allowed tags offset first last most left at len xs le some fits so_far one =
    placed_more allowed tags offset first last most left at 0 len (offset + at) xs le some fits so_far
    (without_tag allowed tags _ one) (omega arith)
