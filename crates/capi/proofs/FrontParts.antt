-- The parts of a header, by the first byte of its title and the eight bytes after it.
use Rattle.std.specs.Prelude.{◌≤◌, ◌^◌, IfNone, IfSome, MatchOption, None, Option, Some}
use Rattle.std.proofs.Common.{◌≡◌, ℕ, ◌+◌, ◌*◌, ◌/◌, ◌%◌, ◌<◌, inl, inr, List, [], ◌∷◌, ◌++◌, length, refl, sym}
use Rattle.std.proofs.Common.{◌∙◌, eqb, get_or, subst, true, arith, slice_index}
use Rattle.std.proofs.lemmas.Bool.{agree_below_at}
use Rattle.std.specs.Array.{IsFirstChunk}
use Rattle.std.specs.Int.{w16, w32, w64, from_be_bytes}
use Rattle.std.proofs.lemmas.Bool.Decides.{nat_tests}
use Rattle.std.proofs.lemmas.Nat.{be_bytes_2, be_bytes_4, be_bytes_8}
use Rattle.ciborium_ll.specs.Types.Header.{Header}
use Rattle.ciborium_ll_grammar.specs.Title.{IsTitle, numbered, Major, Size, Small, One, Two, Four, Eight, numbered_header}
use Rattle.ciborium_ll_grammar.specs.Title.{affix_of, affix_len, first_byte, minor_of, size_limit, IsRefused, AreBytes}
use Rattle.ciborium_ll_grammar.proofs.AffixLaws.{MinorCases, byte_at, major_with, minor_cases, one_byte}
use Rattle.ciborium_ll_grammar.proofs.AffixLaws.{title_or_refused}
use Rattle.capi.specs.declared.answer.CllAnswer.TheVariants as a
use Rattle.capi.specs.declared.front.TheConstants.{KINDS}
use Rattle.capi.specs.declared.header.CllHeader.{CllHeader}
use Rattle.capi.specs.Fronts.{form_in, kind_in, number_in, other_kind_in}
use Rattle.capi.specs.Headers.{Says}
use Rattle.capi.specs.Pulling.{CllPull}
use Rattle.capi.proofs.TitleParts.{kind_under, other_kind, says_open, says_parts}

ruleset tests = (arith, nat_tests)

-- The table has the kind of each of the 256 first bytes.
pub kind_says : (first kind : ℕ) → first < 256 → kind ≡ get_or KINDS first 0 → kind ≡ kind_in first
kind_says first kind l is =
    let same = agree_below_at (λ (b : ℕ). eqb (get_or KINDS b 0) (kind_in b)) (λ (b : ℕ). true) 256 first refl l in
    is ∙ grind (arith, nat_tests, same)

-- The kind of a first byte is that of its major type, or of its minor if the major type is 7.
kind_is : (b other : ℕ) → b < 256 → other_kind_in (b % 32) ≡ other → kind_in b ≡ kind_under (b / 32) other
kind_is b other byte is = grind tests

-- A first byte and the affix of a number are a title.
number_titled : (b : ℕ) (affix : List ℕ) (major : Major) (size : Size) (n : ℕ) → n < size_limit size
    → affix_of size n ≡ affix → first_byte major (minor_of size n) ≡ b → IsTitle (b ∷ affix) (numbered_header major size n)
number_titled b affix major size n fits same first = rw (← first, ← same) (numbered major size n fits)

-- The same title, with its first byte in parts.
in_parts : (b : ℕ) (affix : List ℕ) (size : Size) (n : ℕ) (header : Header) → 32 * (b / 32) + minor_of size n ≡ b
    → affix_of size n ≡ affix → IsTitle (b ∷ affix) header
    → IsTitle ((32 * (b / 32) + minor_of size n) ∷ affix_of size n) header
in_parts b affix size n header split same title =
    subst (λ (x : ℕ). IsTitle (x ∷ affix_of size n) header) (sym split)
    (subst (λ (xs : List ℕ). IsTitle (b ∷ xs) header) (sym same) title)

-- Bytes that begin with a title of a header with these parts.
record Told (b : ℕ) (affix : List ℕ) (parts : CllHeader) : Type 0 where
  header : Header
  is_title : IsTitle (b ∷ affix) header
  says : Says parts header

module _ (b word : ℕ) (parts : CllHeader) (byte : b < 256) (taken : IsRefused b → ⊥)
    (kind : parts.kind ≡ kind_in b) (value : parts.value ≡ number_in (b % 32) word)
    (form : parts.indefinite ≡ form_in b) where
  -- A title with a number of this size.
  of_number : (size : Size) (n : ℕ) (affix : List ℕ) → b % 32 ≡ minor_of size n → n < size_limit size
      → affix_of size n ≡ affix → number_in (b % 32) word ≡ n → other_kind_in (b % 32) ≡ other_kind size
      → form_in b ≡ 0 → Told b affix parts
  of_number size n affix minor fits same number other none =
      let m = major_with (b / 32) (omega arith) in
      let first : first_byte m.0 (minor_of size n) ≡ b = omega (arith, m.1, minor) in
      let split : 32 * (b / 32) + minor_of size n ≡ b = omega (arith, minor) in
      let title = number_titled b affix m.0 size n fits same first in
      record {
        header = numbered_header m.0 size n;
        is_title = title;
        says = says_parts parts (b / 32) size n (numbered_header m.0 size n) (omega arith) fits
            (in_parts b affix size n (numbered_header m.0 size n) split same title) (kind ∙ kind_is b (other_kind size) byte other) (value ∙ number) (form ∙ none);
      }

  -- A title of the minor 31.
  of_open : b % 32 ≡ 31 → Told b [] parts
  of_open minor =
      let split : 32 * (b / 32) + 31 ≡ b = omega (arith, minor) in
      elim (title_or_refused b [] byte tt (grind arith)) [
        | inl refused ↦ absurd (taken refused)
        | inr titled ↦ record {
          header = titled.0;
          is_title = titled.1;
          says = says_open parts (b / 32) titled.0 (omega arith) (subst (λ (x : ℕ). IsTitle (x ∷ []) titled.0) (sym split) titled.1)
              (kind ∙ kind_is b 11 byte (grind tests)) (value ∙ grind tests) (form ∙ grind tests);
        }
      ]

  -- The result of a pull of these bytes, whose title has this affix.
  pulled : (affix rest : List ℕ) (old : CllHeader) (len : ℕ) → len ≡ length (b ∷ affix) → Told b affix parts
      → CllPull (b ∷ affix ++ rest) a.Ok old parts len
  pulled affix rest old len long told = (
    record { title = b ∷ affix; header = told.header; rest = rest; is_title = told.is_title; is = refl },
    told.says,
    long,
  )

  module _ (b1 b2 b3 b4 b5 b6 b7 b8 : ℕ) (more : List ℕ) (old : CllHeader) (len : ℕ)
      (all : AreBytes (b1 ∷ b2 ∷ b3 ∷ b4 ∷ b5 ∷ b6 ∷ b7 ∷ b8 ∷ []))
      (is : word ≡ from_be_bytes w64 (b1 ∷ b2 ∷ b3 ∷ b4 ∷ b5 ∷ b6 ∷ b7 ∷ b8 ∷ []))
      (long : len ≡ 1 + affix_len (b % 32)) where
    abbrev After : List ℕ
    After = b1 ∷ b2 ∷ b3 ∷ b4 ∷ b5 ∷ b6 ∷ b7 ∷ b8 ∷ []

    by_minor : MinorCases (b % 32) → CllPull (b ∷ After ++ more) a.Ok old parts len
    by_minor (inl small) =
        pulled [] (After ++ more) old len (grind tests)
        (of_number Small (b % 32) [] refl small refl (grind tests) (grind tests) (grind tests))
    by_minor (inr (inl one)) =
        let at = byte_at After all in
        pulled (b1 ∷ []) (b2 ∷ b3 ∷ b4 ∷ b5 ∷ b6 ∷ b7 ∷ b8 ∷ more) old len (grind tests)
        (of_number One b1 (b1 ∷ []) one (at 0) (one_byte (b1 ∷ []) refl (at 0))
        (rw one (omega (arith, is, at 0, at 1, at 2, at 3, at 4, at 5, at 6, at 7))) (rw one refl) (grind tests))
    by_minor (inr (inr (inl two))) =
        let at = byte_at After all in
        let two_at = byte_at (b1 ∷ b2 ∷ []) (all.0, (all.1.0, tt)) in
        pulled (b1 ∷ b2 ∷ []) (b3 ∷ b4 ∷ b5 ∷ b6 ∷ b7 ∷ b8 ∷ more) old len (grind tests)
        (of_number Two (from_be_bytes w16 (b1 ∷ b2 ∷ [])) (b1 ∷ b2 ∷ []) two (omega (arith, at 0, at 1))
        (be_bytes_2 (b1 ∷ b2 ∷ []) _ refl two_at refl)
        (rw two (omega (arith, is, at 0, at 1, at 2, at 3, at 4, at 5, at 6, at 7))) (rw two refl) (grind tests))
    by_minor (inr (inr (inr (inl four)))) =
        let at = byte_at After all in
        let four_at = byte_at (b1 ∷ b2 ∷ b3 ∷ b4 ∷ []) (all.0, (all.1.0, (all.1.1.0, (all.1.1.1.0, tt)))) in
        pulled (b1 ∷ b2 ∷ b3 ∷ b4 ∷ []) (b5 ∷ b6 ∷ b7 ∷ b8 ∷ more) old len (grind tests)
        (of_number Four (from_be_bytes w32 (b1 ∷ b2 ∷ b3 ∷ b4 ∷ [])) (b1 ∷ b2 ∷ b3 ∷ b4 ∷ []) four
        (omega (arith, at 0, at 1, at 2, at 3)) (be_bytes_4 (b1 ∷ b2 ∷ b3 ∷ b4 ∷ []) _ refl four_at refl)
        (rw four (omega (arith, is, at 0, at 1, at 2, at 3, at 4, at 5, at 6, at 7))) (rw four refl) (grind tests))
    by_minor (inr (inr (inr (inr (inl eight))))) =
        let at = byte_at After all in
        pulled After more old len (grind tests)
        (of_number Eight (from_be_bytes w64 After) After eight
        (omega (arith, at 0, at 1, at 2, at 3, at 4, at 5, at 6, at 7)) (be_bytes_8 After _ refl at refl)
        (rw eight is) (rw eight refl) (grind tests))
    by_minor (inr (inr (inr (inr (inr (inl reserved)))))) = absurd (taken (inl reserved))
    by_minor (inr (inr (inr (inr (inr (inr last)))))) =
        pulled [] (After ++ more) old len (grind tests) (of_open last)

    -- Nine bytes whose first one is not refused give the parts of their title.
    pub front_told : CllPull (b ∷ After ++ more) a.Ok old parts len
    front_told = by_minor (minor_cases (b % 32) (omega arith))

-- At least nine bytes, the first nine of which give these parts, begin with the title of these parts.
pub chunk_told : (bytes front : List ℕ) (word : ℕ) (parts old : CllHeader) (len : ℕ) → IsFirstChunk bytes front 9
    → ((i : ℕ) → slice_index bytes i < 256) → (IsRefused (slice_index front 0) → ⊥)
    → word ≡ from_be_bytes w64 (slice_index front 1 ∷ slice_index front 2 ∷ slice_index front 3 ∷ slice_index front 4
    ∷ slice_index front 5 ∷ slice_index front 6 ∷ slice_index front 7 ∷ slice_index front 8 ∷ [])
    → parts.kind ≡ kind_in (slice_index front 0) → parts.value ≡ number_in (slice_index front 0 % 32) word
    → parts.indefinite ≡ form_in (slice_index front 0) → len ≡ 1 + affix_len (slice_index front 0 % 32)
    → CllPull bytes a.Ok old parts len
chunk_told (b ∷ b1 ∷ b2 ∷ b3 ∷ b4 ∷ b5 ∷ b6 ∷ b7 ∷ b8 ∷ more) front word parts old len chunk at taken is kind value
    form long =
    let same = chunk.same in
    front_told b word parts (at 0) (rw same at taken) (rw same at kind) (rw same at value) (rw same at form)
    b1 b2 b3 b4 b5 b6 b7 b8 more old len (at 1, (at 2, (at 3, (at 4, (at 5, (at 6, (at 7, (at 8, tt)))))))) (rw same at is)
    (rw same at long)
chunk_told [] front word parts old len chunk at taken is kind value form long =
    absurd (omega (arith, chunk.enough))
chunk_told (b ∷ []) front word parts old len chunk at taken is kind value form long =
    absurd (omega (arith, chunk.enough))
chunk_told (b ∷ b1 ∷ []) front word parts old len chunk at taken is kind value form long =
    absurd (omega (arith, chunk.enough))
chunk_told (b ∷ b1 ∷ b2 ∷ []) front word parts old len chunk at taken is kind value form long =
    absurd (omega (arith, chunk.enough))
chunk_told (b ∷ b1 ∷ b2 ∷ b3 ∷ []) front word parts old len chunk at taken is kind value form long =
    absurd (omega (arith, chunk.enough))
chunk_told (b ∷ b1 ∷ b2 ∷ b3 ∷ b4 ∷ []) front word parts old len chunk at taken is kind value form long =
    absurd (omega (arith, chunk.enough))
chunk_told (b ∷ b1 ∷ b2 ∷ b3 ∷ b4 ∷ b5 ∷ []) front word parts old len chunk at taken is kind value form long =
    absurd (omega (arith, chunk.enough))
chunk_told (b ∷ b1 ∷ b2 ∷ b3 ∷ b4 ∷ b5 ∷ b6 ∷ []) front word parts old len chunk at taken is kind value form long =
    absurd (omega (arith, chunk.enough))
chunk_told (b ∷ b1 ∷ b2 ∷ b3 ∷ b4 ∷ b5 ∷ b6 ∷ b7 ∷ []) front word parts old len chunk at taken is kind value form long =
    absurd (omega (arith, chunk.enough))

-- The number of a title, by its minor.
pub number_told : (minor n word : ℕ) → minor ≤ 27 → (minor < 24 → n ≡ minor) → (minor ≡ 24 → n ≡ word / 2 ^ 56)
    → (minor ≡ 25 → n ≡ word / 2 ^ 48) → (minor ≡ 26 → n ≡ word / 2 ^ 32) → (minor ≡ 27 → n ≡ word)
    → n ≡ number_in minor word
number_told minor n word most small one two four eight = grind tests

-- A title that has a number begins with no reserved byte.
pub number_titles : (b : ℕ) → b % 32 ≤ 27 → IsRefused b → ⊥
number_titles b most (inl reserved) = omega (arith, reserved.0, most)
number_titles b most (inr last) = omega (arith, last.0, most)

-- A title that has a number is of no indefinite form.
pub numbered_form : (b : ℕ) → b % 32 ≤ 27 → 0 ≡ form_in b
numbered_form b most = grind tests

open_number : (minor word : ℕ) → 27 < minor → number_in minor 0 ≡ number_in minor word
open_number minor word least = grind tests

open_length : (b : ℕ) → 27 < b % 32 → 1 ≡ 1 + affix_len (b % 32)
open_length b least = grind tests

-- At least nine bytes whose first one has no number begin with the title of these parts, if they begin with one.
pub open_told : (bytes front : List ℕ) (parts old : CllHeader) (result : Option ℕ) → IsFirstChunk bytes front 9
    → ((i : ℕ) → slice_index bytes i < 256) → 27 < slice_index front 0 % 32 → IfNone result (parts ≡ old)
    → IfSome result (λ len. IsRefused (slice_index front 0) → ⊥) → IfSome result (λ len. len ≡ 1)
    → IfSome result (λ len. parts.value ≡ number_in (slice_index front 0 % 32) 0)
    → IfSome result (λ len. parts.kind ≡ kind_in (slice_index front 0))
    → IfSome result (λ len. parts.indefinite ≡ form_in (slice_index front 0))
    → MatchOption result (parts ≡ old) (λ len. CllPull bytes a.Ok old parts len)
open_told bytes front parts old None chunk at least same taken one value kind form = same
open_told bytes front parts old (Some len) chunk at least same taken one value kind form =
    let b = slice_index front 0 in
    chunk_told bytes front _ parts old len chunk at taken refl kind (value ∙ open_number (b % 32) _ least) form
    (one ∙ open_length b least)
