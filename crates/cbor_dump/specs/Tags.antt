-- The names of common tags (RFC 8949, 3.4, and the registry of CBOR tags at IANA).
use Rattle.std.specs.Prelude.{ℕ, ◌==◌, List, [], ◌∷◌, codes, Option, Some, None, if◌then◌else◌}

-- A tag and its name: 1 and `epoch time`.
pub record NamedTag : Type 0 where
  pub tag : ℕ
  pub name : List ℕ

-- This tag has this name: `named 1 (codes "epoch time")`.
abbrev pub named : ℕ → List ℕ → NamedTag
named tag name = record { tag = tag; name = name }

-- The common tags. Each name stands after its standard.
abbrev pub named_tags : List NamedTag
named_tags =
    -- RFC 8949, 3.4.1 to 3.4.4: times, bignums, decimal fractions and bigfloats
    named 0 (codes "date and time")
    ∷ named 1 (codes "epoch time")
    ∷ named 2 (codes "bignum")
    ∷ named 3 (codes "negative bignum")
    ∷ named 4 (codes "decimal fraction")
    ∷ named 5 (codes "bigfloat")
    -- RFC 9052, 2: messages of COSE for one receiver
    ∷ named 16 (codes "COSE_Encrypt0")
    ∷ named 17 (codes "COSE_Mac0")
    ∷ named 18 (codes "COSE_Sign1")
    -- RFC 8949, 3.4.5: bytes that are to become text later, an encoded item, and texts of a format
    ∷ named 21 (codes "to base64url")
    ∷ named 22 (codes "to base64")
    ∷ named 23 (codes "to base16")
    ∷ named 24 (codes "encoded item")
    ∷ named 32 (codes "URI")
    ∷ named 33 (codes "base64url")
    ∷ named 34 (codes "base64")
    ∷ named 36 (codes "MIME message")
    -- the registry: a UUID as a byte string
    ∷ named 37 (codes "UUID")
    -- RFC 8392, 6: a CBOR web token
    ∷ named 61 (codes "CWT")
    -- RFC 8742: a sequence of items in a byte string
    ∷ named 63 (codes "encoded sequence")
    -- RFC 9052, 2: messages of COSE for several receivers
    ∷ named 96 (codes "COSE_Encrypt")
    ∷ named 97 (codes "COSE_Mac")
    ∷ named 98 (codes "COSE_Sign")
    -- RFC 8943, 1: a date as a number of days
    ∷ named 100 (codes "days since 1970")
    -- the registry: a set
    ∷ named 258 (codes "set")
    -- RFC 8943, 1: a date as a text
    ∷ named 1004 (codes "date")
    -- RFC 8949, 3.4.6: data that is CBOR
    ∷ named 55799 (codes "CBOR")
    ∷ []

-- The name of the tag of this number among these, if it is one of them. Among the tags 1 and 2 it is `bignum` for 2.
abbrev pub name_among : ℕ → List NamedTag → Option (List ℕ)
name_among number [] = None
name_among number (first ∷ others) = if number == first.tag then Some first.name else name_among number others

-- The name of the tag of this number, if it is a common one: 1 has the name `epoch time`, and 6 has none.
abbrev pub tag_name : ℕ → Option (List ℕ)
tag_name number = name_among number named_tags
