-- Steps from spot to spot: by one more byte, and by a list of bytes.
use Rattle.std.specs.Prelude.{◌≡◌, ℕ, zero, suc, ◌+◌, ◌<◌, Bool, List, [], ◌∷◌, ◌++◌, true, false}
use Rattle.ciborium_ll_grammar.specs.declared.spelling.Spelling.{Spelling}
use Rattle.ciborium_ll_grammar.specs.declared.hdr.Header.{Header}
use Rattle.ciborium_ll_grammar.specs.Title.{IsTitle, IsCutTitle}
use Rattle.ciborium_ll_grammar.specs.Items.{IsTakenTitle}
use Rattle.ciborium_ll_text.specs.declared.state.State.{State}
use Rattle.ciborium_ll_text.specs.States.{after_byte, may_end}
use Rattle.cbor_checker.specs.declared.phase.Phase.{Phase}
use Rattle.cbor_checker.specs.declared.phase.Phase.TheVariants as p
use Rattle.cbor_parser.specs.declared.strings.Within.TheVariants as w
use Rattle.cbor_parser.specs.Titles.{NoneTaken, SomeTaken}
use Rattle.cbor_checker.specs.declared.phase.Fault.{Fault}
use Rattle.cbor_checker.specs.Spots.{Spot, at_phase, bytes_due, entered, refused, string_done}

-- No byte came, and one item is due. With depth 3, three levels are left, and the place and the offset are 0.
abbrev pub start : Spelling → ℕ → Spot
start allowed depth = record {
  allowed = allowed;
  phase = p.Title;
  front = [];
  within = w.Nothing;
  depth = depth;
  levels = [];
  place = 0;
  offset = 0;
}

-- The offset at which this title began, which its fault names. In `81 19 01` it is 1 for both bytes of `19 01`.
abbrev pub title_place : List ℕ → Spot → ℕ
title_place [] spot = spot.offset
title_place (byte ∷ bytes) spot = spot.place

-- The spot with one more byte of a title: `01` after the front `19` makes the front `19 01`.
abbrev pub with_byte : ℕ → Spot → Spot
with_byte byte spot = record spot {
  front = spot.front ++ byte ∷ [];
  place = title_place spot.front spot;
  offset = spot.offset + 1;
}

-- The spot after a whole title: after `42`, two bytes of a body are due, and the front is empty.
abbrev pub titled : Header → Spot → Spot
titled header spot = entered spot.within header (record spot { front = [] })

-- The spot that a byte of a title leads to. The byte stands at the end of the front (RFC 7049, 2.1). If an item is due,
-- `01` leads past it, and `1c` to a fault.
pub data TitleStep (spot : Spot) : Spot → Type 0 where
  -- The title isn't whole. Some titles with this beginning are taken, and all of them may stand here. So it is with
  -- `19` if an item is due.
  cut : IsCutTitle spot.front → SomeTaken spot.allowed spot.front
      → ((more : List ℕ) (header : Header) (fault : Fault) → IsTitle (spot.front ++ more) header
      → (titled header spot).phase ≡ p.Faulted fault → ⊥)
      → TitleStep spot spot
  -- The title isn't whole. Some titles with this beginning are taken, and none of them may stand here. So it is with
  -- `78` within a byte string.
  early : (fault : Fault) → IsCutTitle spot.front → SomeTaken spot.allowed spot.front
      → ((more : List ℕ) (header : Header) → IsTitle (spot.front ++ more) header
      → (titled header spot).phase ≡ p.Faulted fault)
      → TitleStep spot (at_phase (p.Faulted fault) spot)
  -- The title is whole, and is taken, as `01`.
  whole : (header : Header) → IsTitle spot.front header → IsTakenTitle spot.allowed spot.front header
      → TitleStep spot (titled header spot)
  -- No title that is taken begins with these bytes, as with `1c`.
  none : NoneTaken spot.allowed spot.front → TitleStep spot (refused (record spot { front = [] }))

-- The spot after a byte of a text, with this many bytes left. With `false`, no text has this beginning. One byte is
-- left after `62 c3`, and `62 ff` has a fault.
abbrev pub text_left : Bool → ℕ → State → Spot → Spot
text_left false left state spot = refused spot
text_left true zero state spot = string_done spot.within spot
text_left true (suc left) state spot = at_phase (p.Text (suc left) state) spot

-- This many bytes of a body came: three bytes from 5 on lead to the offset 8.
abbrev pub counted_by : ℕ → Spot → Spot
counted_by len spot = record spot { front = []; offset = spot.offset + len }

-- A byte of a body came: the offset 5 becomes 6.
abbrev pub counted : Spot → Spot
counted spot = record spot { front = []; offset = spot.offset + 1 }

-- The next spot, by what is due. If one byte of a byte string is due, as after `41`, any byte ends the string. After
-- the end of the item, no byte leads on.
abbrev pub StepIn : Phase → Spot → ℕ → Spot → Type 0
StepIn p.Title spot byte new = TitleStep (with_byte byte spot) new
StepIn (p.Bytes zero) spot byte new = ⊥
StepIn (p.Bytes (suc left)) spot byte new = new ≡ bytes_due left (counted spot)
StepIn (p.Text zero state) spot byte new = ⊥
StepIn (p.Text (suc left) state) spot byte new =
    new ≡ text_left (may_end (after_byte state byte) left) left (after_byte state byte) (counted spot)
StepIn p.Ended spot byte new = ⊥
StepIn (p.Faulted fault) spot byte new = ⊥

-- The next spot, after one more byte of a title or of a string's body. From `start`, `01` leads to the end of an item.
abbrev pub Step : Spot → ℕ → Spot → Type 0
Step spot byte new = StepIn spot.phase spot byte new

-- `Leads spot bytes new`: these bytes lead from the spot to the new spot, with a `Step` for each. With depth 1, `82 01`
-- leads from `start` to the spot at which the second item is due.
pub data Leads : Spot → List ℕ → Spot → Type 0 where
  stay : {spot : Spot} → Leads spot [] spot
  go : {bytes : List ℕ} {spot next new : Spot} (byte : ℕ) → byte < 256 → Step spot byte next → Leads next bytes new
      → Leads spot (byte ∷ bytes) new

-- `IsFed allowed depth bytes spot`: these bytes have led from `start` to the spot, with a `Step` for each. They are fed
-- as one item nested to the depth, and for `Shortest` in its shortest spelling. With depth 0, `82` has led to a fault,
-- and `82 01` to no spot.
pub data IsFed (allowed : Spelling) (depth : ℕ) : List ℕ → Spot → Type 0 where
  fresh : IsFed allowed depth [] (start allowed depth)
  more : {bytes : List ℕ} {spot new : Spot} (byte : ℕ) → byte < 256 → IsFed allowed depth bytes spot
      → Step spot byte new → IsFed allowed depth (bytes ++ byte ∷ []) new
