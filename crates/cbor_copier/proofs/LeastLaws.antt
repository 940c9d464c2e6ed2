-- The least numbers of titles that are the shortest of their header.
use Rattle.std.proofs.Common.{◌≡◌, ℕ, ◌+◌, ◌/◌, ◌%◌, ◌^◌, ◌<◌, ◌≤◌, List, [], ◌∷◌}
use Rattle.std.proofs.lemmas.Bool.{cases_lt}
use Rattle.std.proofs.lemmas.List.{get_or-drop}
use Rattle.std.proofs.Common.{arith, drop, inl, inr, slice_index}
use Rattle.std.specs.Int.{from_be_bytes, w64}
use Rattle.ciborium_ll_grammar.specs.TitleRows.{IsLeast}
use Rattle.cbor_copier.specs.Plain.{StaysShort}

-- After `18` the least number is 24 at least.
least_one : (first least : ℕ) → first < 256 → IsLeast first least → first % 32 ≡ 24 → 24 ≤ least
least_one first least byte is at =
    elim (cases_lt (first / 32) 7) [
      | inl low ↦ omega (arith, is.one at low)
      | inr high ↦ omega (arith, is.simple at (omega (arith, byte, high)))
    ]

-- If the number of a title is at least the least one, the title is the shortest of its header. `front` are the nine
-- bytes from the title on, and `word` is the number that the last eight of them spell.
module _ (front : List ℕ) (word number least : ℕ) (fits : (i : ℕ) → slice_index front i < 256)
    (is : word ≡ from_be_bytes w64 (slice_index front 1 ∷ slice_index front 2 ∷ slice_index front 3
    ∷ slice_index front 4 ∷ slice_index front 5 ∷ slice_index front 6 ∷ slice_index front 7 ∷ slice_index front 8 ∷ []))
    (one : slice_index front 0 % 32 ≡ 24 → number ≡ word / 2 ^ 56)
    (two : slice_index front 0 % 32 ≡ 25 → number ≡ word / 2 ^ 48)
    (four : slice_index front 0 % 32 ≡ 26 → number ≡ word / 2 ^ 32)
    (eight : slice_index front 0 % 32 ≡ 27 → number ≡ word)
    (least_is : IsLeast (slice_index front 0) least) where
  abbrev after : (i : ℕ) → slice_index (drop 1 front) i ≡ slice_index front (1 + i)
  after i = get_or-drop 1 front i 0

  -- The bytes of the word are below 256.
  abbrev word_fits :
      (slice_index front 1 < 256) × (slice_index front 2 < 256) × (slice_index front 3 < 256)
      × (slice_index front 4 < 256) × (slice_index front 5 < 256) × (slice_index front 6 < 256)
      × (slice_index front 7 < 256) × (slice_index front 8 < 256)
  word_fits = (fits 1, fits 2, fits 3, fits 4, fits 5, fits 6, fits 7, fits 8)

  pub least_stays : least ≤ number → StaysShort (slice_index front 0) (drop 1 front)
  least_stays enough = (
    λ at. (
      omega (arith, after 0, is, one at, enough, least_one _ least (fits 0) least_is at, word_fits),
      λ high.
          let seven : slice_index front 0 / 32 ≡ 7 = omega (arith, high, fits 0) in
          omega (arith, after 0, is, one at, enough, least_is.simple at seven, word_fits),
    ),
    λ at low. omega (arith, after 0, is, two at, enough, least_is.two at (omega (arith, low)), word_fits),
    λ at low. omega (arith, after 0, after 1, is, four at, enough, least_is.four at (omega (arith, low)), word_fits),
    λ at low.
        omega (arith, after 0, after 1, after 2, after 3, is, eight at, enough, least_is.eight at (omega (arith, low)), word_fits),
  )
