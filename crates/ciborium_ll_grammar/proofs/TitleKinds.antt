-- The kind of a first byte, and the titles whose first byte announces an affix.
use Rattle.std.proofs.Common.{◌≡◌, ℕ, ◌/◌, ◌%◌, ◌<◌, ◌≤◌, List, [], ◌∷◌, length, refl, arith, slice_index, drop}
use Rattle.std.proofs.lemmas.Bool.Decides.{nat_tests}
use Rattle.ciborium_ll_grammar.specs.declared.hdr.Header.{Header}
use Rattle.ciborium_ll_grammar.specs.declared.hdr.table.TitleKind.{TitleKind}
use Rattle.ciborium_ll_grammar.specs.declared.hdr.table.TitleKind.TheVariants as t
use Rattle.ciborium_ll_grammar.specs.Title.{Major, Unsigned, Negative, ByteString, TextString, Array, Map, Tag, Other}
use Rattle.ciborium_ll_grammar.specs.Title.{major_code, first_byte, Size, minor_of, affix_len, numbered_header, IsTitle}
use Rattle.ciborium_ll_grammar.specs.Title.{numbered, alone, NamesNoTitle}
use Rattle.ciborium_ll_grammar.specs.TitleRows.{IsTitleKind}
use Rattle.ciborium_ll_grammar.proofs.TitleLaws.{minor_below}
use Rattle.ciborium_ll_grammar.proofs.AffixLaws.{refused_affix}

-- ---- the kind of a major type

abbrev pub kind_of : Major → TitleKind
kind_of Unsigned = t.Positive
kind_of Negative = t.Negative
kind_of ByteString = t.Bytes
kind_of TextString = t.Text
kind_of Array = t.Array
kind_of Map = t.Map
kind_of Tag = t.Tag
kind_of Other = t.Other

-- A first byte has the kind of its major type if the byte is not refused.
pub kind_names : (m : Major) (major minor : ℕ) → major_code m ≡ major → (NamesNoTitle major minor → ⊥)
    → IsTitleKind (kind_of m) major minor
kind_names m major minor e some = grind arith

-- ---- titles whose first byte announces an affix

-- The title is the title of a number.
pub record Numbered (byte : ℕ) (x : Header) : Type 0 where
  pub major : Major
  pub size : Size
  pub number : ℕ
  pub is : x ≡ numbered_header major size number
  pub code : major_code major ≡ byte / 32

pub numbered_title : (byte : ℕ) (v t : List ℕ) (x : Header) → IsTitle t x → t ≡ byte ∷ v → 0 < affix_len (byte % 32)
    → Numbered byte x
numbered_title byte v t x (numbered m s n q) e more =
    let below = minor_below s n q in
    let heads : first_byte m (minor_of s n) ≡ byte = cc in
    record { major = m; size = s; number = n; is = refl; code = omega (arith, below, heads) }
numbered_title byte v t x (alone m y o) e more = absurd (grind (arith, nat_tests))

pub kind_at : (kind : TitleKind) (byte : ℕ) (m : Major) → major_code m ≡ byte / 32 → 0 < affix_len (byte % 32)
    → IsTitleKind kind (byte / 32) (byte % 32) → kind ≡ kind_of m
kind_at kind byte m e more i = grind (arith, refused_affix)

-- No byte announces more than eight bytes.
pub affix_most : (minor : ℕ) → affix_len minor ≤ 8
affix_most minor = grind (arith, nat_tests)

-- A list that is not empty is its first element and the others.
pub parted : (xs : List ℕ) → 0 < length xs → xs ≡ slice_index xs 0 ∷ drop 1 xs
parted [] l = absurd (omega arith)
parted (x ∷ xs) l = refl
