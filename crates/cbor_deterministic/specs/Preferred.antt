-- Titles of the preferred serialization (RFC 8949, 4.1): a number in the fewest bytes, a definite length, and a float
-- in the smallest width that holds it.
use Rattle.std.specs.Prelude.{ℕ, List, None}
use Rattle.ciborium_ll_grammar.specs.declared.hdr.Header.{Header}
use Rattle.ciborium_ll_grammar.specs.declared.hdr.Header.TheVariants as h
use Rattle.ciborium_ll_grammar.specs.declared.hdr.Float.{Float}
use Rattle.ciborium_ll_grammar.specs.declared.hdr.Float.TheVariants as f
use Rattle.ciborium_ll_grammar.specs.Title.{IsTitle, IsStrictTitle}
use Rattle.cbor_deterministic.specs.Floats.{half, single, double, parts, HasNarrower}

-- A smaller width holds the float (RFC 8949, 4.1). 1.0 in 32 bits, `3f 80 00 00`, is wide, since 16 bits hold it.
abbrev pub IsWideFloat : Float → Type 0
IsWideFloat (f.Half bits) = ⊥
IsWideFloat (f.Single bits) = HasNarrower half single (parts single bits)
IsWideFloat (f.Double bits) = HasNarrower single double (parts double bits)

-- The header is that of a float that fits a smaller width (RFC 8949, 4.1). The header of `fa 3f 80 00 00` is wide, and
-- that of `f9 3c 00` is not.
abbrev pub IsWide : Header → Type 0
IsWide (h.Float float) = IsWideFloat float
IsWide header = ⊥

-- The header has an indefinite form or is a break (RFC 8949, 3.2). The headers of `5f`, `9f` and `ff` are such headers.
abbrev pub IsIndefinite : Header → Type 0
IsIndefinite h.Break = Unit {0}
IsIndefinite (h.Bytes None) = Unit {0}
IsIndefinite (h.Text None) = Unit {0}
IsIndefinite (h.Array None) = Unit {0}
IsIndefinite (h.Map None) = Unit {0}
IsIndefinite header = ⊥

-- The title of the header in a deterministic encoding (RFC 8949, 4.1 and 4.2.1). It is a strict title, has no
-- indefinite form, and no float that fits a smaller width. `17` is a preferred title, and `18 17`, `9f` and
-- `fa 3f 80 00 00` are none.
pub record IsPreferredTitle (title : List ℕ) (header : Header) : Type 0 where
  pub is_title : IsTitle title header
  pub strict : IsStrictTitle title header
  pub definite : IsIndefinite header → ⊥
  pub narrow : IsWide header → ⊥
