-- The parts of an item that stands in memory.
use Rattle.std.specs.Prelude.{◌≡◌, ◌*◌, ◌-◌, ℕ, List, [], ◌∷◌, ◌++◌, length, Option, Some, None}
use Rattle.ciborium_ll_grammar.specs.declared.spelling.Spelling.TheVariants.{Any}
use Rattle.ciborium_ll_grammar.specs.declared.hdr.Header.{Header}
use Rattle.ciborium_ll_grammar.specs.declared.hdr.Header.TheVariants as h
use Rattle.ciborium_ll_grammar.specs.Title.{IsTitle}
use Rattle.ciborium_ll_grammar.specs.Items.{Completes, AreItems}

-- The bytes are a title of this header, and then these contents, which complete the item (RFC 7049, 2.1 to 2.4).
-- `9f 01 ff` is the title `9f` and the contents `01 ff`.
pub record Opens (depth : ℕ) (bytes : List ℕ) (header : Header) (contents : List ℕ) : Type 0 where
  pub title : List ℕ
  pub is_title : IsTitle title header
  pub whole : bytes ≡ title ++ contents
  pub completes : ∥ Completes Any depth header contents ∥₁

-- The bytes begin with a title of this header. `18 01` begins with a title of 1.
pub record IsOpenedBy (bytes : List ℕ) (header : Header) : Type 0 where
  pub title : List ℕ
  pub contents : List ℕ
  pub is_title : IsTitle title header
  pub whole : bytes ≡ title ++ contents

-- The bytes are a byte string of definite length with this body (RFC 7049, 2.1). `42 01 02` has the body `01 02`.
pub record IsBytesOf (bytes body : List ℕ) : Type 0 where
  pub title : List ℕ
  pub is_title : IsTitle title (h.Bytes (Some (length body)))
  pub whole : bytes ≡ title ++ body

-- The bytes are a text string of definite length with this body (RFC 7049, 2.1). `61 61`, which is "a", has the body
-- `61`.
pub record IsTextOf (bytes body : List ℕ) : Type 0 where
  pub title : List ℕ
  pub is_title : IsTitle title (h.Text (Some (length body)))
  pub whole : bytes ≡ title ++ body

-- The contents of an array or a map that contains these items, joined. If its title tells no count, a break ends them
-- (RFC 7049, 2.2.1). Without a count the item `01` gives `01 ff`.
abbrev pub closed : Option ℕ → List ℕ → List ℕ
closed (Some count) items = items
closed None items = items ++ 0xff ∷ []

-- The bytes are this many items, joined, or any number of them if no count is told. `01 82 02 03` are two items.
abbrev pub HasItems : ℕ → Option ℕ → List ℕ → Type 0
HasItems depth (Some count) bytes = AreItems Any depth count bytes
HasItems depth None bytes = (count : ℕ) × AreItems Any depth count bytes

-- The bytes are this many pairs, joined, or any number of them if no count is told. A pair is two items (RFC 7049,
-- 2.1). `01 02 03 04` are two pairs.
abbrev pub HasPairs : ℕ → Option ℕ → List ℕ → Type 0
HasPairs depth (Some count) bytes = AreItems Any depth (2 * count) bytes
HasPairs depth None bytes = (count : ℕ) × AreItems Any depth (2 * count) bytes

-- One less than a count that is told: 1 for 2, 0 for 0, and `None` for `None`.
abbrev pub one_less : Option ℕ → Option ℕ
one_less (Some count) = Some (count - 1)
one_less None = None
