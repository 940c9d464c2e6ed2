-- The tags, arrays and maps that a walk keeps, which are not closed, and the items that are due within each.
use Rattle.std.specs.Prelude.{◌≡◌, ℕ, zero, suc, ◌+◌, Bool, true, false, List, [], ◌∷◌, ◌++◌, length, slice_index_or}
use Rattle.std.specs.Prelude.{Option, Some, None}
use Rattle.ciborium_ll_grammar.specs.declared.spelling.Spelling.{Spelling}
use Rattle.ciborium_ll.specs.Types.Header.{Header}
use Rattle.ciborium_ll.specs.Types.Header.TheVariants as h
use Rattle.ciborium_ll.specs.Items.{IsItem}
use Rattle.ciborium_ll.specs.Limits.{MOST_LEVELS}
use Rattle.cbor_skip.specs.Types.Remaining.{Remaining}
use Rattle.cbor_skip.specs.Types.Remaining.TheVariants as r
use Rattle.cbor_skip.specs.Remaining.{IsRemaining, is_done}
use Rattle.cbor_dump.specs.declared.walk.Walk.{Walk}
use Rattle.cbor_dump.specs.declared.walk.Entered.{Entered}
use Rattle.cbor_dump.specs.declared.walk.Entered.TheVariants as e
use Rattle.cbor_dump.specs.declared.rows.Within.{Within}
use Rattle.cbor_dump.specs.declared.rows.Within.TheVariants as w
use Rattle.cbor_dump.specs.declared.key.Key.{Key}
use Rattle.cbor_dump.specs.declared.key.Key.TheVariants as k
use Rattle.cbor_dump.specs.Keys.{NamesItem}
use Rattle.cbor_dump.specs.Levels.{IsBehindKey, Nest, StandsBehind, closes_one, index_in, title_level}

-- A header that is an item by itself (RFC 7049, 2.1 and 2.3), as those of `01`, `20`, `f4` and `f9 3c 00` are.
abbrev pub IsItemAlone : Header → Type 0
IsItemAlone (h.Positive number) = Unit {0}
IsItemAlone (h.Negative number) = Unit {0}
IsItemAlone (h.Float value) = Unit {0}
IsItemAlone (h.Simple number) = Unit {0}
IsItemAlone header = ⊥

-- The items that remain at the level of this number. After `83 01` they are `Items(2)` at the number 0.
abbrev pub remaining_at : List Remaining → ℕ → Remaining
remaining_at levels at = slice_index_or levels at (r.Items 0)

-- Each nest has items left, as many as the walk keeps at its level. After `82 81` it keeps `Items(2)` at 0 and
-- `Items(1)` at 1.
abbrev pub AreKept : List Remaining → List Nest → Type 0
AreKept levels [] = Unit {0}
AreKept levels (nest ∷ nests) = IsRemaining nest.header nest.count (remaining_at levels (length nests))
    × (is_done (remaining_at levels (length nests)) ≡ false) × AreKept levels nests

-- The index that the walk keeps at the level of this number. After `83 01` it is 1 at the number 0.
abbrev pub index_at : List (Option ℕ) → ℕ → Option ℕ
index_at indexes at = slice_index_or indexes at None

-- The place of an item that is no value: its index, if it has one. For the index 1 it is `Index(1)`.
abbrev pub place_of : Option ℕ → Within
place_of (Some index) = w.Index index
place_of None = w.Nothing

-- The walk keeps the index of the next item within each nest. After `82 81` it keeps the index 0 at 0 and at 1.
abbrev pub AreAt : List (Option ℕ) → List Nest → Type 0
AreAt indexes [] = Unit {0}
AreAt indexes (nest ∷ nests) =
    (index_at indexes (length nests) ≡ index_in nest.header nest.count) × AreAt indexes nests

-- The key names the last item within the innermost nest, if that has an item. After `a1 01` it is `Positive(1)`.
abbrev pub IsKeyKept : ℕ → List Nest → List ℕ → Key → Type 0
IsKeyKept depth [] bytes key = Unit {0}
IsKeyKept depth (nest ∷ nests) bytes key =
    (earlier : ℕ) → nest.count ≡ suc earlier → IsBehindKey depth nest.header earlier nests bytes key

-- The walk keeps exactly these nests. After `81 c1` they are the tag and the array, and it uses 2 levels.
pub record KeepsNests (depth : ℕ) (walk : Walk) (nests : List Nest) : Type 0 where
  pub kept : AreKept walk.levels nests
  pub used : walk.used ≡ length nests
  pub same_depth : walk.depth ≡ depth
  pub room : length walk.levels ≡ MOST_LEVELS
  pub placed : AreAt walk.indexes nests
  pub wide : length walk.indexes ≡ MOST_LEVELS

-- After the bytes, which have `whole` whole items, an item is due within the nests that the walk keeps. All stand in
-- any spelling, or all in the shortest one. After `01 82` one item is whole, and the walk keeps one nest.
pub record IsDue (allowed : Spelling) (depth whole : ℕ) (walk : Walk) (bytes : List ℕ) : Type 0 where
  pub nests : List Nest
  pub within : StandsBehind allowed depth whole nests bytes
  pub keeps : KeepsNests depth walk nests
  pub keyed : IsKeyKept depth nests bytes walk.key

-- The bytes end with an item that was due within the nests that the walk keeps, and the key names it. In `82 01` it is
-- `01`, within one nest.
pub record IsBehindItem (allowed : Spelling) (depth whole : ℕ) (walk : Walk) (key : Key) (bytes : List ℕ) : Type 0 where
  pub before : List ℕ
  pub item : List ℕ
  pub levels : ℕ
  pub nests : List Nest
  pub within : StandsBehind allowed depth whole nests before
  pub keeps : KeepsNests depth walk nests
  pub left : length nests + levels ≡ depth
  pub is_item : IsItem allowed levels item
  pub is : bytes ≡ before ++ item
  pub names : NamesItem item key

-- How many items are whole after the end of an item, if this many levels are open: outside of all levels one more. With
-- no level open 2 becomes 3, and with one level open it stays 2.
abbrev pub whole_behind : ℕ → ℕ → ℕ
whole_behind whole zero = suc whole
whole_behind whole (suc used) = whole

-- After the bytes an item is due: after an item that has ended, or within an item that was begun. After `82 01` it is
-- due within the array, and after `82 01 02` outside of it.
abbrev pub IsDueBehind : Spelling → ℕ → ℕ → Walk → List ℕ → Type 0
IsDueBehind allowed depth whole walk bytes = IsDue allowed depth (whole_behind whole walk.used) walk bytes

-- After the bytes an item is due within as many nests as there may be. After `81` that is so to the depth 1.
pub record IsDeepest (allowed : Spelling) (depth whole : ℕ) (bytes : List ℕ) : Type 0 where
  pub nests : List Nest
  pub within : StandsBehind allowed depth whole nests bytes
  pub full : length nests ≡ depth

-- The effect of a nest's title after the bytes: `80` is an item, and `81` opens a level.
abbrev pub Enters : Spelling → ℕ → ℕ → Entered → Walk → List ℕ → List ℕ → Type 0
Enters allowed depth whole e.Deep walk before title = IsDeepest allowed depth whole before
Enters allowed depth whole e.Empty walk before title = IsBehindItem allowed depth whole walk k.Other (before ++ title)
Enters allowed depth whole e.Within walk before title = IsDueBehind allowed depth whole walk (before ++ title)

-- The effect of a break after the bytes, and its level. After `9f 01` it closes the array.
pub record Breaks (allowed : Spelling) (depth whole : ℕ) (closed : Bool) (walk : Walk) (before : List ℕ) : Type 0 where
  pub nests : List Nest
  pub within : StandsBehind allowed depth whole nests before
  pub level : walk.used ≡ title_level h.Break nests 0
  pub may : closes_one nests 0 ≡ closed
  pub behind : closed ≡ true → IsBehindItem allowed depth whole walk k.Other (before ++ 0xff ∷ [])

-- The effect of the end of an item, which the key names: its level goes on, or ends too. In `82 01 02` the array goes on
-- after `01`, and ends after `02`.
abbrev pub Ends : Spelling → ℕ → ℕ → Bool → Walk → List ℕ → Type 0
Ends allowed depth whole true walk bytes = IsBehindItem allowed depth whole walk k.Other bytes
Ends allowed depth whole false walk bytes = IsDueBehind allowed depth whole walk bytes
