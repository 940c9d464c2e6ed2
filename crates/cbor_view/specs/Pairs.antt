-- The pairs of a map, and the first one whose key is sought.
use Rattle.std.specs.Prelude.{◌≡◌, ◌-◌, ℕ, List, ◌++◌, Option}
use Rattle.ciborium_ll_grammar.specs.declared.spelling.Spelling.TheVariants.{Any}
use Rattle.ciborium_ll_grammar.specs.declared.hdr.Header.TheVariants as h
use Rattle.ciborium_ll_grammar.specs.Title.{IsTitle}
use Rattle.ciborium_ll_grammar.specs.Items.{IsItem}
use Rattle.cbor_view.specs.declared.search.Key.{Key}
use Rattle.cbor_view.specs.declared.search.Key.TheVariants as k
use Rattle.cbor_view.specs.Segments.{SpellsText}
use Rattle.cbor_view.specs.Views.{Opens, closed}

-- `IsPairOf depth pairs key value`: one of these pairs, joined, has this key and this value (RFC 7049, 2.1).
-- `01 02 03 04` have the key `03` with the value `04`.
pub data IsPairOf (depth : ℕ) : List ℕ → List ℕ → List ℕ → Type 0 where
  first_pair : {key value : List ℕ} (others : List ℕ) → IsItem Any depth key → IsItem Any depth value
      → IsPairOf depth (key ++ (value ++ others)) key value
  later_pair : {other another others key value : List ℕ} → IsItem Any depth other → IsItem Any depth another
      → IsPairOf depth others key value → IsPairOf depth (other ++ (another ++ others)) key value

-- `IsFirstPair Matches depth pairs value`: of these pairs, joined, whose key matches, the first one has this value. In
-- `01 02 01 03` the first pair with the key `01` has the value `02`.
pub data IsFirstPair (Matches : List ℕ → Type 0) (depth : ℕ) : List ℕ → List ℕ → Type 0 where
  here : {key value : List ℕ} (others : List ℕ) → IsItem Any depth key → IsItem Any depth value → Matches key
      → IsFirstPair Matches depth (key ++ (value ++ others)) value
  later : {other another others value : List ℕ} → IsItem Any depth other → IsItem Any depth another
      → (Matches other → ⊥) → IsFirstPair Matches depth others value
      → IsFirstPair Matches depth (other ++ (another ++ others)) value

-- The bytes are a map of definite or indefinite length, and this is the value of its first pair whose key matches. To a
-- depth of 1 the first value of `01` in `a2 01 02 01 03` is `02`.
pub record HasFirst (Matches : List ℕ → Type 0) (depth : ℕ) (bytes value : List ℕ) : Type 0 where
  pub count : Option ℕ
  pub pairs : List ℕ
  pub opens : Opens depth bytes (h.Map count) (closed count pairs)
  pub first : IsFirstPair Matches (depth - 1) pairs value

-- The bytes are no map that has a key which matches. If `02` alone matches, `a1 01 02` is no such map, and neither is
-- `81 02`.
abbrev pub HasNone : (List ℕ → Type 0) → ℕ → List ℕ → Type 0
HasNone Matches depth bytes = (count : Option ℕ) (pairs key value : List ℕ)
    → Opens depth bytes (h.Map count) (closed count pairs) → IsPairOf (depth - 1) pairs key value → Matches key → ⊥

-- The bytes of an item are the key that is sought: the same bytes, or this text or this integer in any spelling. `01`
-- and `18 01` are the integer 1.
abbrev pub IsKey : Key → List ℕ → Type 0
IsKey (k.Bytes bytes) item = item ≡ bytes.now
IsKey (k.Text text) item = ∥ SpellsText item text.now ∥₁
IsKey (k.Positive number) item = IsTitle item (h.Positive number)
IsKey (k.Negative number) item = IsTitle item (h.Negative number)
