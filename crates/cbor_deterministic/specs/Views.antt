-- The parts of an item in the deterministic encoding that stands in memory.
use Rattle.std.specs.Prelude.{◌≡◌, ◌-◌, ℕ, List, ◌++◌, length, Some}
use Rattle.ciborium_ll_grammar.specs.declared.hdr.Header.{Header}
use Rattle.ciborium_ll_grammar.specs.declared.hdr.Header.TheVariants as h
use Rattle.cbor_deterministic.specs.declared.Order.{Order}
use Rattle.cbor_deterministic.specs.Preferred.{IsPreferredTitle}
use Rattle.cbor_deterministic.specs.Deterministic.{Completes, IsDeterministic, AreSortedPairs}

-- The bytes are a title of this header, and then these contents, which complete the item. `82 01 02` is the title `82`
-- and the contents `01 02`.
pub record Opens (order : Order) (depth : ℕ) (bytes : List ℕ) (header : Header) (contents : List ℕ) : Type 0 where
  pub title : List ℕ
  pub is_title : IsPreferredTitle title header
  pub whole : bytes ≡ title ++ contents
  pub completes : ∥ Completes order depth header contents ∥₁

-- The bytes begin with the preferred title of this header. `18 64` begins with that of 100.
pub record IsOpenedBy (bytes : List ℕ) (header : Header) : Type 0 where
  pub title : List ℕ
  pub contents : List ℕ
  pub is_title : IsPreferredTitle title header
  pub whole : bytes ≡ title ++ contents

-- The bytes are a byte string with this body (RFC 8949, 3.1). `42 01 02` has the body `01 02`.
pub record IsBytesOf (bytes body : List ℕ) : Type 0 where
  pub title : List ℕ
  pub is_title : IsPreferredTitle title (h.Bytes (Some (length body)))
  pub whole : bytes ≡ title ++ body

-- The bytes are a text string with this body (RFC 8949, 3.1). `61 61`, which is "a", has the body `61`.
pub record IsTextOf (bytes body : List ℕ) : Type 0 where
  pub title : List ℕ
  pub is_title : IsPreferredTitle title (h.Text (Some (length body)))
  pub whole : bytes ≡ title ++ body

-- The bytes are this many pairs, whose keys ascend from some key on. `01 02 03 04` are two pairs.
pub record HasPairs (order : Order) (depth count : ℕ) (bytes : List ℕ) : Type 0 where
  pub above : List ℕ
  pub are : AreSortedPairs order depth count above bytes

-- `IsPairOf order depth pairs key value`: some pair of the joined pairs has this key and this value. `01 02 03 04` have
-- the key `03` with the value `04`.
pub data IsPairOf (order : Order) (depth : ℕ) : List ℕ → List ℕ → List ℕ → Type 0 where
  first_pair : {key value : List ℕ} (others : List ℕ) → IsDeterministic order depth key
      → IsDeterministic order depth value → IsPairOf order depth (key ++ (value ++ others)) key value
  later_pair : {other another others key value : List ℕ} → IsDeterministic order depth other
      → IsDeterministic order depth another → IsPairOf order depth others key value
      → IsPairOf order depth (other ++ (another ++ others)) key value

-- The bytes are a map, and it has this key with this value. To a depth of 1 `a1 01 02` has the key `01` with the value
-- `02`.
pub record HasKey (order : Order) (depth : ℕ) (bytes key value : List ℕ) : Type 0 where
  pub count : ℕ
  pub pairs : List ℕ
  pub opens : Opens order depth bytes (h.Map (Some count)) pairs
  pub has : IsPairOf order (depth - 1) pairs key value

-- The bytes are no map that has this key. `a1 01 02` has no key `02`, and `81 01`, an array, has no key.
abbrev pub HasNoKey : Order → ℕ → List ℕ → List ℕ → Type 0
HasNoKey order depth bytes key = (value : List ℕ) → HasKey order depth bytes key value → ⊥
