-- Elements that a copy keeps as they are.
use Rattle.std.specs.Prelude.{◌≡◌, ◌≢◌, ℕ, suc, ◌+◌, ◌-◌, ◌/◌, ◌%◌, ◌<◌, ◌≤◌, ◌⊎◌, List, [], ◌∷◌, ◌++◌, length}
use Rattle.std.specs.Prelude.{Some, slice_index}
use Rattle.ciborium_ll_grammar.specs.Title.{IsTitle, affix_len}
use Rattle.ciborium_ll_grammar.specs.declared.hdr.Header.{Header}
use Rattle.ciborium_ll_grammar.specs.declared.hdr.Header.TheVariants as h
use Rattle.cbor_copier.specs.declared.phase.Phase.TheVariants as p
use Rattle.cbor_parser.specs.declared.strings.StringKind.{StringKind}
use Rattle.cbor_parser.specs.declared.strings.StringKind.TheVariants as k
use Rattle.cbor_parser.specs.declared.strings.Within.{Within}
use Rattle.cbor_parser.specs.declared.strings.Within.TheVariants as w
use Rattle.ciborium_ll_grammar.specs.declared.spelling.Spelling.{Spelling}
use Rattle.cbor_copier.specs.Spots.{IsPutOut, Spot, elements_due}
use Rattle.cbor_copier.specs.Steps.{IsFed}

-- This many elements are left. None of the next title came, and nothing is pending. With 2, 5 and 6, two elements are
-- left, the place is 5 and the offset 6.
abbrev pub bare : Spelling → ℕ → ℕ → ℕ → Spot
bare allowed left place offset = record {
  allowed = allowed;
  phase = p.Title;
  front = [];
  within = w.Nothing;
  left = left;
  place = place;
  offset = offset;
  put = [];
}

-- If an element is due, these bytes are an element that any copier takes, and go out as they are (RFC 7049, 2.1 and
-- 3.9). `01`, `81` and `42 01 02` do so, and `18 01` does not.
abbrev pub IsKept : List ℕ → Type 0
IsKept bytes = (allowed : Spelling) (count left place offset : ℕ) (fed out : List ℕ)
    → IsFed allowed count fed (bare allowed left place offset) out
    → IsFed allowed count (fed ++ bytes) (elements_due (left - 1) (bare allowed left offset (offset + length bytes)))
    (out ++ bytes)

-- This many elements of this kind, joined. The last begins at this index, as at 1 in `01 02`.
pub data AreKept : ℕ → ℕ → List ℕ → Type 0 where
  one : {item : List ℕ} → IsKept item → AreKept 1 0 item
  more : {count last : ℕ} {bytes item : List ℕ} → AreKept count last bytes → IsKept item
      → AreKept (suc count) (length bytes) (bytes ++ item)

-- Strings of this kind are open, and this many of them within the first (RFC 7049, 2.2.2). None of the next title came,
-- and nothing is pending. After `5f 41 01`, no string is open within the first, the place is 1 and the offset 3.
abbrev pub inside : Spelling → StringKind → ℕ → ℕ → ℕ → ℕ → Spot
inside allowed kind within left place offset = record (bare allowed left place offset) { within = w.Open kind within }

-- Within open strings of this kind, these bytes are pieces that any copier takes, and that go out as they are (RFC
-- 7049, 2.2.2 and 3.9). The last begins at this index, as at 2 in `41 01 41 02`.
abbrev pub ArePieces : StringKind → ℕ → List ℕ → Type 0
ArePieces kind last bytes = (allowed : Spelling) (count within left place offset : ℕ) (fed out : List ℕ)
    → IsFed allowed count fed (inside allowed kind within left place offset) out
    → IsFed allowed count (fed ++ bytes) (inside allowed kind within left (offset + last) (offset + length bytes))
    (out ++ bytes)

-- The header of a string of this kind and length (RFC 7049, 2.1). `42` begins a byte string of two bytes.
abbrev pub string_of : StringKind → ℕ → Header
string_of k.Bytes len = h.Bytes (Some len)
string_of k.Text len = h.Text (Some len)

-- A whole string of this kind is at the beginning of the bytes, and its title has one byte (RFC 7049, 2.1). The bytes
-- `42 01 02 03` begin so. `42 01` and `58 01 02` do not.
pub record BeginsPiece (kind : StringKind) (bytes : List ℕ) : Type 0 where
  pub first : ℕ
  pub body : List ℕ
  pub rest : List ℕ
  pub is : bytes ≡ first ∷ body ++ rest
  pub title : IsTitle (first ∷ []) (string_of kind (length body))
  pub whole : IsPutOut kind body

-- Strings are open, and these bytes are pieces of them, the last from this index on: `41 02` within `5f`.
abbrev pub AreWithin : Within → ℕ → List ℕ → Type 0
AreWithin w.Nothing last bytes = ⊥
AreWithin (w.Open kind within) last bytes = ArePieces kind last bytes

-- The number in the table of a first byte, by its major type and its lower five bits (RFC 7049, 2.1). It is the length
-- of a title that begins no string, or of a string below 24 bytes: 1 for `81`, 2 for `18`, and 3 for `42`. It is 0 for
-- any other byte, as `58`.
abbrev pub IsLen : ℕ → ℕ → Type 0
IsLen first len =
    ((len ≡ 0) × (24 ≤ first % 32))
    ⊎ ((len ≡ 1) × (first % 32 < 24) × (first / 32 ≢ 2) × (first / 32 ≢ 3)
    ⊎ ((len ≡ 1 + first % 32) × (first % 32 < 24) × ((first / 32 ≡ 2) ⊎ (first / 32 ≡ 3))
    ⊎ (len ≡ 1 + affix_len (first % 32)) × (24 ≤ first % 32) × (first % 32 < 28) × (first / 32 ≢ 2)
    × (first / 32 ≢ 3)))

-- After this first byte, the number in these bytes has no shorter title (RFC 7049, 3.9). So it is for `18` before
-- `18`, and not before `17`. A float has only one title, and a simple value in two bytes is at least 32.
abbrev pub StaysShort : ℕ → List ℕ → Type 0
StaysShort first after =
    (first % 32 ≡ 24 → (24 ≤ slice_index after 0) × (0xe0 ≤ first → 32 ≤ slice_index after 0))
    × (first % 32 ≡ 25 → first < 0xe0 → 0 < slice_index after 0)
    × (first % 32 ≡ 26 → first < 0xe0 → 0 < slice_index after 0 + slice_index after 1)
    × (first % 32 ≡ 27 → first < 0xe0
    → 0 < slice_index after 0 + slice_index after 1 + slice_index after 2 + slice_index after 3)

-- No element of one byte begins so (RFC 7049, 2.1): the first byte begins a string, or an affix follows it. `42` and
-- `18` are such bytes, and `17` is none.
abbrev pub BeginsLonger : ℕ → Type 0
BeginsLonger first = (24 ≤ first % 32) ⊎ ((first / 32 ≡ 2) ⊎ (first / 32 ≡ 3))
