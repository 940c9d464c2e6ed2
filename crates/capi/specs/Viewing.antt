-- The results of the calls that look into an item in memory.
use Rattle.std.specs.Prelude.{◌≡◌, ◌≢◌, ◌≤◌, ◌+◌, ℕ, ℤ, pos, negsuc, Bool, true, false, List, [], ◌++◌}
use Rattle.std.specs.Prelude.{Option, Some, None}
use Rattle.ciborium_ll_grammar.specs.declared.spelling.Spelling.TheVariants.{Any}
use Rattle.ciborium_ll_grammar.specs.declared.hdr.Header.{Header}
use Rattle.ciborium_ll_grammar.specs.declared.hdr.Header.TheVariants as h
use Rattle.ciborium_ll_grammar.specs.declared.limits.TheConstants.{MOST_LEVELS}
use Rattle.ciborium_ll_grammar.specs.Title.{IsTitle}
use Rattle.ciborium_ll_grammar.specs.Items.{IsItem}
use Rattle.cbor_skip.specs.ItemFaults.{BeginsWithItem}
use Rattle.cbor_view.specs.Pairs.{HasFirst, HasNone}
use Rattle.ciborium_ll_grammar.specs.Title.{HasFirstTitle}
use Rattle.cbor_view.specs.Views.{closed}
use Rattle.capi.specs.declared.answer.CllAnswer.{CllAnswer}
use Rattle.capi.specs.declared.answer.CllAnswer.TheVariants as a
use Rattle.capi.specs.declared.header.CllHeader.{CllHeader}
use Rattle.capi.specs.declared.item.CllBody.{CllBody}
use Rattle.capi.specs.declared.item.CllItem.{CllItem}
use Rattle.capi.specs.declared.items.CllItems.{CllItems}
use Rattle.capi.specs.Headers.{Says}
use Rattle.capi.specs.Pulling.{BeginsWithTitle}

-- ---- an item and its title

-- The view has the item that begins the bytes, and may go down this many levels. In `82 01 02 03` to a depth of 1 it
-- has `82 01 02`.
pub record Views (depth : ℕ) (bytes : List ℕ) (item : CllItem) : Type 0 where
  pub rest : List ℕ
  pub is_item : IsItem Any depth item.bytes.now
  pub whole : bytes ≡ item.bytes.now ++ rest
  pub levels : item.depth ≡ depth

-- The view has one whole item, as each view has that a call filled in. `82 01 02` to a depth of 1 is one, and `82 01`
-- is none.
pub record IsView (item : CllItem) : Type 0 where
  pub is_item : IsItem Any item.depth item.bytes.now
  pub shallow : item.depth ≤ MOST_LEVELS

-- The result of `cll_item_header`, by its answer: the header of the title that begins the bytes. Of `82 01 02` it is an
-- array of 2. If no title begins them, as none begins `1c`, the header is as it was.
abbrev pub TellsHeader : List ℕ → CllAnswer → CllHeader → CllHeader → Type 0
TellsHeader bytes a.Ok old new = (front : BeginsWithTitle bytes) × Says new front.header
TellsHeader bytes a.Argument old new = (BeginsWithTitle bytes → ⊥) × (new ≡ old)
TellsHeader bytes answer old new = ⊥

-- The result of `cll_item_bytes` and `cll_item_text`, by its answer: the body of a string that `IsOf` tells. The byte
-- string `42 01 02` has the body `01 02`. If there is none, as in `01`, the body is as it was.
abbrev pub GivesBody : (List ℕ → Type 0) → CllAnswer → CllBody → CllBody → Type 0
GivesBody IsOf a.Ok old new = IsOf new.bytes.now
GivesBody IsOf a.Absent old new = ((body : List ℕ) → IsOf body → ⊥) × (new ≡ old)
GivesBody IsOf answer old new = ⊥

-- ---- the items in an item

-- The contents of an array or a map are these items, joined, and each of them may go down this many levels, one less
-- than the depth. A break ends an indefinite form (RFC 7049, 2.1 and 2.2.1). Without a count and to a depth of 3 the
-- contents `01 02 ff` are the items `01 02` with 2 levels.
abbrev pub AreNested : Option ℕ → ℕ → List ℕ → List ℕ → ℕ → Type 0
AreNested count depth contents items levels = (contents ≡ closed count items) × (depth ≡ levels + 1)

-- The contents of a string of indefinite length are these strings, joined, and a break. They take no level (RFC 7049,
-- 2.2.2). The contents `41 01 41 02 ff` are the strings `41 01 41 02`.
abbrev pub AreStrings : Option ℕ → ℕ → List ℕ → List ℕ → ℕ → Type 0
AreStrings None depth contents items levels = (contents ≡ closed None items) × (depth ≡ levels)
AreStrings (Some len) depth contents items levels = ⊥

-- `AreWithin header depth contents items levels`: the contents after a title of this header are these items, joined,
-- and each of them may go down this many levels (RFC 7049, 2.1 to 2.4). They are the items of an array, the keys and
-- the values of a map, the item of a tag, or the strings in a string of indefinite length.
abbrev pub AreWithin : Header → ℕ → List ℕ → List ℕ → ℕ → Type 0
AreWithin (h.Array count) depth contents items levels = AreNested count depth contents items levels
AreWithin (h.Map count) depth contents items levels = AreNested count depth contents items levels
AreWithin (h.Tag number) depth contents items levels = AreNested (Some 1) depth contents items levels
AreWithin (h.Bytes len) depth contents items levels = AreStrings len depth contents items levels
AreWithin (h.Text len) depth contents items levels = AreStrings len depth contents items levels
AreWithin header depth contents items levels = ⊥

-- The bytes are a title and these items, as `AreWithin` has them. `a1 01 02` to a depth of 1 has the items `01 02` with
-- no level.
pub record HasWithin (depth : ℕ) (bytes items : List ℕ) (levels : ℕ) : Type 0 where
  pub header : Header
  pub contents : List ℕ
  pub split : HasFirstTitle bytes header contents
  pub within : AreWithin header depth contents items levels

-- The result of `cll_item_items`, by its answer: the items in an item. If it may have none, as `01` or `42 01 02`,
-- nothing changes.
abbrev pub ListsItems : CllItem → CllAnswer → CllItems → CllItems → Type 0
ListsItems item a.Ok old new = HasWithin item.depth item.bytes.now new.bytes.now new.depth
ListsItems item a.Absent old new =
    ((items : List ℕ) (levels : ℕ) → HasWithin item.depth item.bytes.now items levels → ⊥) × (new ≡ old)
ListsItems item answer old new = ⊥

-- The call took the first item, and left the others. It takes `82 02 03` of `82 02 03 04`, and leaves `04`.
pub record TakesFirst (old : CllItems) (item : CllItem) (new : CllItems) : Type 0 where
  pub whole : old.bytes.now ≡ item.bytes.now ++ new.bytes.now
  pub is_item : IsItem Any old.depth item.bytes.now
  pub levels : item.depth ≡ old.depth
  pub same_levels : new.depth ≡ old.depth
  pub shallow : old.depth ≤ MOST_LEVELS

-- The result of `cll_item_next`, by its answer: the first item that is left, or none if no byte is left. If bytes are
-- left and no item begins them, as `1c`, or the depth is above the greatest, the answer is `Argument`.
abbrev pub StepsOn : CllAnswer → CllItems → CllItem → CllItems → CllItem → Type 0
StepsOn a.Ok old before new item = TakesFirst old item new
StepsOn a.Absent old before new item = (old.bytes.now ≡ []) × (new ≡ old) × (item ≡ before)
StepsOn a.Argument old before new item =
    (old.bytes.now ≢ []) × (old.depth ≤ MOST_LEVELS → BeginsWithItem Any old.depth old.bytes.now → ⊥)
    × (new ≡ old) × (item ≡ before)
StepsOn answer old before new item = ⊥

-- ---- the value of a key

-- The integer with this sign and the number of its title (RFC 7049, 2.1): -1 - n if it is negative, and n otherwise. It
-- is -1000 for a negative one with the number 999.
abbrev pub integer_of : Bool → ℕ → ℤ
integer_of true n = negsuc n
integer_of false n = pos n

-- The item is this integer, in any spelling (RFC 7049, 2.1). `18 01` is 1, and `20` is -1.
abbrev pub IsInteger : ℤ → List ℕ → Type 0
IsInteger (pos n) item = IsTitle item (h.Positive n)
IsInteger (negsuc n) item = IsTitle item (h.Negative n)

-- The result of `cll_item_get` and its kin, by its answer: the value of the first pair of a map whose key matches. In
-- `a2 01 02 01 03` that of `01` is `02`. If no key of the item matches, or it is no map, the value is as it was.
abbrev pub Finds : (List ℕ → Type 0) → CllItem → CllAnswer → CllItem → CllItem → Type 0
Finds Matches item a.Ok old new =
    HasFirst Matches item.depth item.bytes.now new.bytes.now × (item.depth ≡ new.depth + 1) × IsView item
Finds Matches item a.Absent old new = HasNone Matches item.depth item.bytes.now × (new ≡ old) × IsView item
Finds Matches item a.Argument old new = (IsView item → ⊥) × (new ≡ old)
Finds Matches item answer old new = ⊥
