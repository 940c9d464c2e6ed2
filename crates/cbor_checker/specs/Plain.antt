-- Items whose first bytes give their length, and whose bytes are all there.
use Rattle.std.specs.Prelude.{◌≡◌, ◌==◌, ℕ, zero, suc, ◌+◌, ◌*◌, ◌/◌, ◌%◌, ◌<◌, ◌≤◌, ◌⊎◌, List, [], ◌∷◌, ◌++◌, ◌-◌, length}
use Rattle.std.specs.Prelude.{if◌then◌else◌, Bool, true, Option, Some, None}
use Rattle.ciborium_ll_grammar.specs.declared.spelling.Spelling.{Spelling}
use Rattle.ciborium_ll_grammar.specs.Title.{affix_len}
use Rattle.cbor_checker.specs.declared.phase.Phase.TheVariants as p
use Rattle.cbor_parser.specs.declared.strings.Within.TheVariants as w
use Rattle.ciborium_ll_grammar.specs.declared.remaining.Remaining.{Remaining}
use Rattle.ciborium_ll_grammar.specs.declared.remaining.Remaining.TheVariants as l
use Rattle.cbor_checker.specs.Spots.{Spot, item_done, item_due}
use Rattle.cbor_checker.specs.Steps.{Leads}

-- The spot after this many bytes that begin with a title. The place is the offset of that title: three bytes from 5 on
-- lead to the place 5 and the offset 8.
abbrev pub passed : ℕ → Spot → Spot
passed len spot = record spot { front = []; place = spot.offset; offset = spot.offset + len }

-- If an item is due, these bytes are an item and lead past it, as `01` and `61 61` do (RFC 7049, 2.1).
abbrev pub IsPlainItem : Spelling → List ℕ → Type 0
IsPlainItem allowed bytes = (spot : Spot) → spot.phase ≡ p.Title → length spot.front ≡ 0 → spot.within ≡ w.Nothing
    → spot.allowed ≡ allowed → Leads spot bytes (item_done (passed (length bytes) spot))

-- If an item is due and a level is left, these bytes are the title of a tag, as `c1` is. The item with the tag is due
-- within that level (RFC 7049, 2.4).
abbrev pub IsTagTitle : Spelling → List ℕ → Type 0
IsTagTitle allowed bytes = (spot : Spot) → spot.phase ≡ p.Title → length spot.front ≡ 0 → spot.within ≡ w.Nothing
    → spot.allowed ≡ allowed → 0 < spot.depth
    → Leads spot bytes (item_due (spot.depth - 1) (l.Items 0 ∷ spot.levels) (passed (length bytes) spot))

-- The spot after this many bytes that end with an item, whose title begins after the first `start` bytes. Three bytes
-- from 5 on, the first of them a tag, lead to the place 6 and the offset 8.
abbrev pub placed : ℕ → ℕ → Spot → Spot
placed start len spot = record spot { front = []; place = spot.offset + start; offset = spot.offset + len }

-- If an item is due, these bytes are an item and lead past it, as `c1 01` do. Its title begins after the first `start`
-- bytes, here 1. With `tags`, a level has to be left (RFC 7049, 2.1 and 2.4).
abbrev pub IsPlacedItem : Spelling → Bool → ℕ → List ℕ → Type 0
IsPlacedItem allowed tags start bytes = (spot : Spot) → spot.phase ≡ p.Title → length spot.front ≡ 0
    → spot.within ≡ w.Nothing → spot.allowed ≡ allowed → (tags ≡ true → 0 < spot.depth)
    → Leads spot bytes (item_done (placed start (length bytes) spot))

-- The major types of numbers, floats and simple values (RFC 7049, 2.1): 0, 1 and 7, as of `01`, `20` and `f4`.
abbrev pub IsValueMajor : ℕ → Type 0
IsValueMajor major = (major ≡ 0) ⊎ ((major ≡ 1) ⊎ (major ≡ 7))

-- The numbers in the tables of first bytes, by the major type and the lower five bits (RFC 7049, 2.1). `len` is the
-- length of the item with its title, and 0 says nothing. `text_len` is the length of a text's body. They are 3 and 2
-- for `62`, and `len` is 3 for `19`. The item is a number or a simple value of one byte, or a string below 24 bytes. Or
-- it is a longer title of a number, a float or a simple value.
abbrev pub IsSpan : ℕ → ℕ → ℕ → Type 0
IsSpan first len text_len =
    (len ≡ 0)
    ⊎ ((len ≡ 1) × (first % 32 < 24) × IsValueMajor (first / 32)
    ⊎ ((len ≡ 1 + first % 32) × (first % 32 < 24) × (first / 32 ≡ 2)
    ⊎ ((len ≡ 1 + affix_len (first % 32)) × (0 < affix_len (first % 32)) × (24 ≤ first % 32) × (first % 32 < 28)
    × IsValueMajor (first / 32)
    ⊎ (len ≡ 1 + first % 32) × (first % 32 < 24) × (first / 32 ≡ 3) × (text_len ≡ first % 32))))

-- `ArePlain allowed tags offset first count last bytes`: these bytes are `count` items, joined, and begin at the offset.
-- `last` is the offset of the last item's title, or `first` if there is none. In `01 c1 02` at 5, it is 7. With `tags`, a
-- level has to be left.
pub data ArePlain (allowed : Spelling) (tags : Bool) (offset first : ℕ) : ℕ → ℕ → List ℕ → Type 0 where
  none : ArePlain allowed tags offset first zero first []
  more : {count last : ℕ} {bytes item : List ℕ} (start : ℕ) → ArePlain allowed tags offset first count last bytes
      → IsPlacedItem allowed tags start item
      → ArePlain allowed tags offset first (suc count) (offset + length bytes + start) (bytes ++ item)

-- How many items are due in a nest after the current item, if they are counted (RFC 7049, 2.1): 4 for two pairs, and 5
-- for a value and two pairs. The items of `9f` are not counted.
abbrev pub counted_behind : Remaining → Option ℕ
counted_behind (l.Items count) = Some count
counted_behind (l.Pairs count) = Some (2 * count)
counted_behind (l.Value count) = Some (2 * count + 1)
counted_behind level = None

-- This many items, as pairs: 4 are two pairs, and 5 are a value and two pairs.
abbrev pub pairs_of : ℕ → Remaining
pairs_of left = if left % 2 == 0 then l.Pairs (left / 2) else l.Value (left / 2)

-- The nest with this many items after the item that is due. With 5, a nest of items has five items, and one of pairs
-- has a value and two pairs.
abbrev pub lowered : ℕ → Remaining → Remaining
lowered left (l.Items count) = l.Items left
lowered left level = pairs_of left

-- If an item is due and a level is left, this byte is the title of a nest. `level` is the rest of the nest after the
-- item that is due in it (RFC 7049, 2.1): one item for `82`.
abbrev pub IsNestTitle : ℕ → Remaining → Type 0
IsNestTitle first level = (spot : Spot) → spot.phase ≡ p.Title → length spot.front ≡ 0 → spot.within ≡ w.Nothing
    → 0 < spot.depth → Leads spot (first ∷ []) (item_due (spot.depth - 1) (level ∷ spot.levels) (passed 1 spot))
