-- The key of a pair of a map, as a dump keeps it to show it at the pair's value (RFC 8949, 3.1).
use Rattle.std.specs.Prelude.{◌≡◌, ℕ, ◌<◌, ◌≤◌, List, ◌++◌, Option, Some, None, take}
use Rattle.ciborium_ll.specs.Types.Header.{Header}
use Rattle.ciborium_ll.specs.Types.Header.TheVariants as h
use Rattle.ciborium_ll.specs.Title.{IsTitle}
use Rattle.cbor_dump.specs.declared.key.Key.{Key}
use Rattle.cbor_dump.specs.declared.key.Key.TheVariants as k
use Rattle.cbor_dump.specs.declared.key.KeyBody.{KeyBody}

-- The most bytes of a string that is kept as a key. A text of 24 bytes is kept, and one of 25 bytes is not.
abbrev pub most_key : ℕ
most_key = 24

-- The bytes that are kept of a string. Of the key `61 61` they are `61`.
abbrev pub body_bytes : KeyBody → List ℕ
body_bytes body = take body.len body.bytes

-- What is kept of a body of this length has its bytes, if it is short. For an indefinite length it has any bytes. Of
-- `61 62` with the length 2 it has `61 62`.
abbrev pub IsKept : Option ℕ → List ℕ → KeyBody → Type 0
IsKept (Some len) bytes kept = len ≤ most_key → body_bytes kept ≡ bytes
IsKept None bytes kept = Unit {0}

-- The key of a string of this length and body. A short one is named by its body. For the text `61 61` the key is `Text`
-- with `61`, and for a text of 25 bytes it is `Other`.
pub record IsStringKey (named : KeyBody → Key) (len : ℕ) (body : List ℕ) (key : Key) : Type 0 where
  pub short : len ≤ most_key → (kept : KeyBody) × (key ≡ named kept) × (body_bytes kept ≡ body)
  pub long : most_key < len → key ≡ k.Other

-- The key that an item is, by its header and the bytes after its title: an integer or a short string of definite length
-- has a name (RFC 8949, 3.1). For `01` it is `Positive(1)`, and for `81 01` it is `Other`.
abbrev pub IsKeyOf : Header → List ℕ → Key → Type 0
IsKeyOf (h.Positive number) rest key = key ≡ k.Positive number
IsKeyOf (h.Negative number) rest key = key ≡ k.Negative number
IsKeyOf (h.Text (Some len)) rest key = IsStringKey k.Text len rest key
IsKeyOf (h.Bytes (Some len)) rest key = IsStringKey k.Bytes len rest key
IsKeyOf header rest key = key ≡ k.Other

-- The key is that which the item is. For the item `63 61 6c 67` it is `Text` with `61 6c 67`.
pub record NamesItem (item : List ℕ) (key : Key) : Type 0 where
  pub header : Header
  pub title : List ℕ
  pub rest : List ℕ
  pub is_title : IsTitle title header
  pub is : item ≡ title ++ rest
  pub named : IsKeyOf header rest key
