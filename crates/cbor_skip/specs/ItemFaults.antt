-- The beginning of some bytes, as a read of one item sees it: a whole item, or the part that stops the read. If
-- `allowed` is `Shortest`, only the shortest spelling is taken.
use Rattle.std.specs.Prelude.{◌≡◌, ℕ, false, Bool, List, [], ◌∷◌, ◌++◌}
use Rattle.ciborium_ll_grammar.specs.declared.spelling.Spelling.{Spelling}
use Rattle.ciborium_ll_grammar.specs.declared.hdr.Header.{Header}
use Rattle.ciborium_ll_grammar.specs.Title.{IsTitle}
use Rattle.ciborium_ll_grammar.specs.Items.{IsItem, IsTakenTitle}
use Rattle.ciborium_ll_grammar.specs.Faults.{Point, Answer, FirstFault}
use Rattle.cbor_skip.specs.Due.{IsNest, ItemDue, ReachesItem}

-- The bytes begin with an item to the depth, in any spelling or in the shortest (RFC 7049, 2.1 to 2.4 and 3.9). With
-- depth 1, `82 01 02 03` begins with the item `82 01 02`.
pub record BeginsWithItem (allowed : Spelling) (depth : ℕ) (bytes : List ℕ) : Type 0 where
  pub item : List ℕ
  pub rest : List ℕ
  pub is_item : IsItem allowed depth item
  pub is : bytes ≡ item ++ rest

-- The bytes are at fault after a beginning of an item: a title is cut off, is none, or may not stand within its string,
-- or a body is cut off or is no text. If only the shortest spelling is taken, there are three more faults: a title that
-- isn't the shortest, a simple value from 24 to 31, and an open within a string (RFC 7049, 2.2.2 and 3.9). The fault is
-- a row of `FirstFault allowed`, whose part on writing is left open. With depth 1, in `81 1c` the byte `1c` begins no
-- title.
pub record HasItemFault (allowed : Spelling) (depth : ℕ) (bytes : List ℕ) : Type 0 where
  pub before : List ℕ
  pub point : Point
  pub ahead : List ℕ
  pub answer : Answer
  pub written : List ℕ
  pub consumed : ℕ
  pub reach : ReachesItem allowed depth before point
  pub is : bytes ≡ before ++ ahead
  pub fault : FirstFault allowed before [] point ahead answer written consumed

-- After a beginning of an item a further item is due, and a break stands there that may not (RFC 7049, 2.2.1). With
-- depth 1, `82 01 ff` and `bf 01 ff` have such a break.
pub record HasEarlyBreak (allowed : Spelling) (depth : ℕ) (bytes : List ℕ) : Type 0 where
  pub before : List ℕ
  pub rest : List ℕ
  pub levels : ℕ
  pub item_due : ItemDue allowed false depth before levels false
  pub is : bytes ≡ before ++ 0xff ∷ rest

-- After a beginning of an item a tag, an array or a map stands for which no level is left: with depth 1, at `80` in `81
-- 80`.
pub record HasDeepNest (allowed : Spelling) (depth : ℕ) (bytes : List ℕ) : Type 0 where
  pub before : List ℕ
  pub title : List ℕ
  pub header : Header
  pub rest : List ℕ
  pub closable : Bool
  pub item_due : ItemDue allowed false depth before 0 closable
  pub is_title : IsTitle title header
  pub taken : IsTakenTitle allowed title header
  pub is_nest : IsNest header
  pub is : bytes ≡ before ++ (title ++ rest)
