-- Items of any spelling, and the deterministic encoding of their values.
use Rattle.std.specs.Prelude.{◌≡◌, ℕ, List, ◌++◌}
use Rattle.ciborium_ll_grammar.specs.declared.spelling.Spelling.TheVariants.{Any}
use Rattle.ciborium_ll_grammar.specs.Items.{IsItem}
use Rattle.cbor_deterministic.specs.declared.Order.{Order}
use Rattle.cbor_deterministic.specs.Deterministic.{IsDeterministic}
use Rattle.cbor_deterministic.specs.Fitting.{Fits}
use Rattle.cbor_deterministic.specs.Values.{Value, Same}
use Rattle.cbor_deterministic.specs.Spellings.{Encodes}

-- The item, of any spelling, is one to the depth and stands for a value in which no map has a key twice. The written
-- bytes are the deterministic encoding of the same value, in this order of keys and to the same depth (RFC 8949, 4.2).
-- To a depth of 1 `9f 18 01 ff` is rewritten to `81 01`.
pub record IsRewritten (order : Order) (depth : ℕ) (item written : List ℕ) : Type 0 where
  pub is_item : IsItem Any depth item
  pub value : Value
  pub same : Value
  pub spelled : Encodes value item
  pub fits : Fits value
  pub is_deterministic : IsDeterministic order depth written
  pub encodes : Encodes same written
  pub to : Same value same

-- The bytes begin with an item, this rest follows the item, and the written bytes are the deterministic encoding of its
-- value. For `9f 01 ff 02` the rest is `02`, and `81 01` is written.
pub record IsCanonical (order : Order) (depth : ℕ) (bytes rest written : List ℕ) : Type 0 where
  pub item : List ℕ
  pub whole : bytes ≡ item ++ rest
  pub is : IsRewritten order depth item written

-- The bytes are a spelling of a value in which no map has a key twice. `a2 01 02 01 03` is none.
pub record IsFittingSpelling (bytes : List ℕ) : Type 0 where
  pub value : Value
  pub encodes : Encodes value bytes
  pub fits : Fits value
