-- An attestation object of Web Authentication (W3C, 6.5.4): a map with the text keys `fmt`, `attStmt` and `authData`,
-- and the places of their values.
use Rattle.std.specs.Prelude.{◌≡◌, ℕ, ◌+◌, ◌-◌, List, ◌++◌, length, codes, Option}
use Rattle.ciborium_ll_grammar.specs.declared.spelling.Spelling.TheVariants.{Any}
use Rattle.ciborium_ll.specs.Types.Header.TheVariants as h
use Rattle.ciborium_ll.specs.Title.{IsTitle}
use Rattle.ciborium_ll.specs.Items.{IsItem}
use Rattle.cbor_view.specs.Views.{IsBytesOf, IsOpenedBy, IsTextOf, closed}
use Rattle.cbor_view.specs.Faults.{HasFault}
use Rattle.uses.specs.declared.cose.Span.{Span}
use Rattle.uses.specs.declared.webauthn.Attestation.{Attestation}
use Rattle.uses.specs.declared.webauthn.AttestationError.{AttestationError}
use Rattle.uses.specs.declared.webauthn.AttestationError.TheVariants as w
use Rattle.uses.specs.declared.webauthn.TheConstants.{ATTESTATION_DEPTH}

-- ---- the value of a key

-- `IsFirstAt depth key pairs place value`: of these pairs, joined, the first whose key is this text has this value,
-- which begins at this offset in the pairs (RFC 7049, 2.1). In `01 02 61 61 05 61 61 06` the first pair with the key
-- `a` has the value `05`, at offset 4.
pub data IsFirstAt (depth : ℕ) (key : List ℕ) : List ℕ → ℕ → List ℕ → Type 0 where
  here : {other value : List ℕ} (others : List ℕ) → IsItem Any depth other → IsItem Any depth value
      → IsTextOf other key → IsFirstAt depth key (other ++ (value ++ others)) (length other) value
  later : {other another others value : List ℕ} {place : ℕ} → IsItem Any depth other → IsItem Any depth another
      → (IsTextOf other key → ⊥) → IsFirstAt depth key others place value
      → IsFirstAt depth key (other ++ (another ++ others)) (length other + length another + place) value

-- The bytes are a map, and the value of the first key that is this text begins at this offset (RFC 7049, 2.1). In
-- `a1 61 61 05` the value of the key `a` is `05`, at offset 3.
pub record HasValueAt (depth : ℕ) (key bytes : List ℕ) (place : ℕ) (value : List ℕ) : Type 0 where
  pub count : Option ℕ
  pub title : List ℕ
  pub pairs : List ℕ
  pub at : ℕ
  pub is_title : IsTitle title (h.Map count)
  pub whole : bytes ≡ title ++ closed count pairs
  pub first : IsFirstAt (depth - 1) key pairs at value
  pub is : place ≡ length title + at

-- ---- the parts

-- The value is a string that begins at this offset. The span is the span of its body. At offset 3, `62 61 62` has the
-- span from 4 up to 6.
pub record IsBodyAt (IsStringOf : List ℕ → List ℕ → Type 0) (value : List ℕ) (place : ℕ) (span : Span) : Type 0 where
  pub body : List ℕ
  pub is_string : IsStringOf value body
  pub ends : span.end ≡ place + length value
  pub starts : span.start + length body ≡ span.end

-- The value is a map that begins at this offset, and the span is the span of the whole map. At offset 3, `a0` has the
-- span from 3 up to 4.
pub record IsMapAt (value : List ℕ) (place : ℕ) (span : Span) : Type 0 where
  pub count : Option ℕ
  pub is_map : IsOpenedBy value (h.Map count)
  pub starts : span.start ≡ place
  pub ends : span.end ≡ place + length value

-- The bytes are a map, and the value of the first key that is this text stands in this span. In `a1 61 61 a0` the map
-- of the key `a` stands in the span from 3 up to 4.
pub record HasPart (StandsAt : List ℕ → ℕ → Span → Type 0) (depth : ℕ) (key bytes : List ℕ) (span : Span) : Type 0 where
  pub place : ℕ
  pub value : List ℕ
  pub has_value : HasValueAt depth key bytes place value
  pub stands : StandsAt value place span

-- The map has a format: a text with the key `fmt` (W3C Web Authentication, 6.5.4). In `a1 63 66 6d 74 61 61` its span
-- is from 6 up to 7.
abbrev pub HasFormat : ℕ → List ℕ → Span → Type 0
HasFormat depth bytes span = HasPart (IsBodyAt IsTextOf) depth (codes "fmt") bytes span

-- The map has an attestation statement: a map with the key `attStmt` (W3C Web Authentication, 6.5.4). If its value is
-- `a0`, the span has 1 byte.
abbrev pub HasStatement : ℕ → List ℕ → Span → Type 0
HasStatement depth bytes span = HasPart IsMapAt depth (codes "attStmt") bytes span

-- The map has authenticator data: a byte string with the key `authData` (W3C Web Authentication, 6.5.4). If its value
-- is `41 01`, the span has 1 byte.
abbrev pub HasAuthData : ℕ → List ℕ → Span → Type 0
HasAuthData depth bytes span = HasPart (IsBodyAt IsBytesOf) depth (codes "authData") bytes span

-- ---- the object

-- The bytes begin with an item that has this property. If the property is to be a map, `a0 01` begins so, and `01 a0`
-- does not.
pub record BeginsWith (Has : List ℕ → Type 0) (bytes : List ℕ) : Type 0 where
  pub item : List ℕ
  pub rest : List ℕ
  pub is : bytes ≡ item ++ rest
  pub is_item : IsItem Any ATTESTATION_DEPTH item
  pub has : Has item

-- The item is a map with the three parts, in these spans (W3C Web Authentication, 6.5.4). Its title may be `a3` or
-- `bf`.
pub record IsAttestation (parts : Attestation) (item : List ℕ) : Type 0 where
  pub format : HasFormat ATTESTATION_DEPTH item parts.format
  pub statement : HasStatement ATTESTATION_DEPTH item parts.statement
  pub auth_data : HasAuthData ATTESTATION_DEPTH item parts.auth_data

-- The bytes begin with an attestation object, whose parts stand in these spans (W3C Web Authentication, 6.5.4). It may
-- begin with `a3`, but not with `a2`.
abbrev pub BeginsAttestation : List ℕ → Attestation → Type 0
BeginsAttestation bytes parts = BeginsWith (IsAttestation parts) bytes

-- The item has no format: `80` and `a0` have none.
abbrev pub LacksFormat : List ℕ → Type 0
LacksFormat item = (span : Span) → HasFormat ATTESTATION_DEPTH item span → ⊥

-- The item has a format, but no statement: `a1 63 66 6d 74 60`, which is a map of `fmt` to an empty text.
abbrev pub LacksStatement : List ℕ → Type 0
LacksStatement item = ((span : Span) × HasFormat ATTESTATION_DEPTH item span)
    × ((span : Span) → HasStatement ATTESTATION_DEPTH item span → ⊥)

-- The item has a format and a statement, but no authenticator data: for example, a map of `fmt` to `60` and of
-- `attStmt` to `a0`.
abbrev pub LacksAuthData : List ℕ → Type 0
LacksAuthData item = ((span : Span) × HasFormat ATTESTATION_DEPTH item span)
    × ((span : Span) × HasStatement ATTESTATION_DEPTH item span)
    × ((span : Span) → HasAuthData ATTESTATION_DEPTH item span → ⊥)

-- The reason that the bytes begin with no attestation object: `NoFormat` for `a0`.
abbrev pub FailsAttestation : List ℕ → AttestationError → Type 0
FailsAttestation bytes (w.Item fault) = HasFault ATTESTATION_DEPTH bytes fault
FailsAttestation bytes w.NoFormat = BeginsWith LacksFormat bytes
FailsAttestation bytes w.NoStatement = BeginsWith LacksStatement bytes
FailsAttestation bytes w.NoAuthData = BeginsWith LacksAuthData bytes
