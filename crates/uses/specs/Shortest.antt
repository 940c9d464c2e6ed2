-- Items in their shortest spelling.
use Rattle.std.specs.Prelude.{◌≡◌, ℕ, List, ◌++◌, length}
use Rattle.ciborium_ll_grammar.specs.declared.spelling.Spelling.TheVariants.{Any}
use Rattle.ciborium_ll.specs.Elements.{IsStrictRun, Mark}
use Rattle.ciborium_ll.specs.Items.{IsItem}

-- The bytes are one item, nested at most `depth` deep (RFC 7049, 2.1 to 2.4), and its elements are in their shortest
-- spelling (3.9). It has no simple value from 24 to 31 (2.3), and no string of indefinite length inside another
-- (2.2.2). With depth 1, `81 17` is such an item, and `81 18 17` is not.
pub record IsShortestItem (depth : ℕ) (bytes : List ℕ) : Type 0 where
  pub is_item : IsItem Any depth bytes
  pub count : ℕ
  pub marks : List Mark
  pub strict : IsStrictRun count bytes marks

-- The bytes begin with an item of this length in its shortest spelling: `01 02` with an item of 1 byte.
pub record ShortestInFront (depth : ℕ) (bytes : List ℕ) (len : ℕ) : Type 0 where
  pub item : List ℕ
  pub rest : List ℕ
  pub is_shortest : IsShortestItem depth item
  pub is : bytes ≡ item ++ rest
  pub counted : len ≡ length item
