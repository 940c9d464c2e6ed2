-- Steps from spot to spot: by one more byte, and by a list of bytes.
use Rattle.std.specs.Prelude.{◌≡◌, ℕ, zero, suc, ◌+◌, ◌<◌, Bool, List, [], ◌∷◌, ◌++◌, true, false}
use Rattle.ciborium_ll_grammar.specs.declared.spelling.Spelling.{Spelling}
use Rattle.ciborium_ll_grammar.specs.declared.hdr.Header.{Header}
use Rattle.ciborium_ll_grammar.specs.Title.{IsTitle, IsCutTitle}
use Rattle.ciborium_ll_grammar.specs.Items.{IsTakenTitle}
use Rattle.ciborium_ll_text.specs.declared.state.State.{State}
use Rattle.ciborium_ll_text.specs.declared.state.State.TheVariants as s
use Rattle.ciborium_ll_text.specs.States.{after_byte, may_end}
use Rattle.cbor_copier.specs.declared.phase.Phase.{Phase}
use Rattle.cbor_copier.specs.declared.phase.Phase.TheVariants as p
use Rattle.cbor_parser.specs.declared.strings.StringKind.TheVariants as k
use Rattle.cbor_parser.specs.declared.strings.Within.TheVariants as w
use Rattle.cbor_parser.specs.Titles.{NoneTaken, SomeTaken}
use Rattle.cbor_copier.specs.Spots.{Spot, at_phase, putting, elements_due, body_due, entered, refused}

-- No byte came, and this many elements are due. With 2, the place and the offset are 0. With 0, the copy has ended.
abbrev pub start : Spelling → ℕ → Spot
start allowed count = elements_due count (record {
  allowed = allowed;
  phase = p.Title;
  front = [];
  within = w.Nothing;
  left = count;
  place = 0;
  offset = 0;
  put = [];
})

-- The offset at which this title began, which its fault names. In `81 19 01 00` it is 1 for each byte of the second
-- title.
abbrev pub title_place : List ℕ → Spot → ℕ
title_place [] spot = spot.offset
title_place (byte ∷ bytes) spot = spot.place

-- The spot with one more byte of a title: `01` after the front `19` makes the front `19 01`.
abbrev pub with_byte : ℕ → Spot → Spot
with_byte byte spot = record spot {
  front = spot.front ++ byte ∷ [];
  place = title_place spot.front spot;
  offset = spot.offset + 1;
  put = [];
}

-- The spot after a whole title: after `58 02`, two bytes of a body are due, and `42` is put out.
abbrev pub titled : Header → Spot → Spot
titled header spot = entered spot.within header (record spot { front = [] })

-- The spot is at a fault, as at the place 0 after `1c`.
abbrev pub Faults : Spot → Type 0
Faults spot = (place : ℕ) × (spot.phase ≡ p.Faulted place)

-- The spot that a byte of a title leads to. The byte stands at the end of the front (RFC 7049, 2.1). If an element is
-- due, `01` leads past it, and `1c` to a fault.
pub data TitleStep (spot : Spot) : Spot → Type 0 where
  -- The title isn't whole. Some titles with this beginning are taken, and all of them may stand here. So it is with
  -- `19` if an element is due.
  cut : IsCutTitle spot.front → SomeTaken spot.allowed spot.front
      → ((more : List ℕ) (header : Header) → IsTitle (spot.front ++ more) header → Faults (titled header spot) → ⊥)
      → TitleStep spot spot
  -- The title isn't whole. Some titles with this beginning are taken, and none of them may stand here. So it is with
  -- `78` within a byte string.
  early : IsCutTitle spot.front → SomeTaken spot.allowed spot.front
      → ((more : List ℕ) (header : Header) → IsTitle (spot.front ++ more) header → Faults (titled header spot))
      → TitleStep spot (refused spot)
  -- The title is whole, and is taken, as `01`.
  whole : (header : Header) → IsTitle spot.front header → IsTakenTitle spot.allowed spot.front header
      → TitleStep spot (titled header spot)
  -- No title that is taken begins with these bytes, as with `1c`, and for `Shortest` with `19 00`.
  none : NoneTaken spot.allowed spot.front → TitleStep spot (refused (record spot { front = [] }))

-- The spot with one more byte of a character: after `62 c3`, the front is `c3`.
abbrev pub with_char : ℕ → Spot → Spot
with_char byte spot = record spot { front = spot.front ++ byte ∷ []; offset = spot.offset + 1; put = [] }

-- A whole character is put out, as `c3 bc` after its second byte.
abbrev pub char_put : Spot → Spot
char_put spot = record spot { front = []; put = spot.front }

-- The spot after a byte of a text, with this many bytes left. With `false`, no text has this beginning. One byte is
-- left after `62 c3`, and `62 ff` has a fault.
abbrev pub text_left : Bool → ℕ → State → Spot → Spot
text_left false left state spot = refused (record spot { front = [] })
text_left true left s.Between spot = body_due k.Text left (char_put spot)
text_left true left state spot = at_phase (p.Text left state) spot

-- A byte of a byte string is put out, as the last byte of `42 01 02`.
abbrev pub byte_put : ℕ → Spot → Spot
byte_put byte spot = record spot { offset = spot.offset + 1; put = byte ∷ [] }

-- This many bytes of a body came: three bytes from 5 on lead to the offset 8.
abbrev pub counted_by : ℕ → Spot → Spot
counted_by len spot = record spot { offset = spot.offset + len }

-- The next spot and the output, by what is due. If one byte of a byte string is due, as after `41`, any byte ends the
-- string and is put out. After the end of the elements, no byte leads on.
abbrev pub StepIn : Phase → Spot → ℕ → Spot → Type 0
StepIn p.Title spot byte new = TitleStep (with_byte byte spot) new
StepIn (p.Bytes zero) spot byte new = ⊥
StepIn (p.Bytes (suc left)) spot byte new = new ≡ body_due k.Bytes left (byte_put byte spot)
StepIn (p.Text zero state) spot byte new = ⊥
StepIn (p.Text (suc left) state) spot byte new =
    new ≡ text_left (may_end (after_byte state byte) left) left (after_byte state byte) (with_char byte spot)
StepIn p.Ended spot byte new = ⊥
StepIn (p.Faulted place) spot byte new = ⊥

-- The next spot and the output, after one more byte of a title, a character, or a byte string's body. From the start of
-- one element, `01` leads to its end, and is put out.
abbrev pub Step : Spot → ℕ → Spot → Type 0
Step spot byte new = StepIn spot.phase spot byte new

-- `IsFed allowed count bytes spot output`: to a copy of `count` elements, and for `Shortest` of such in their shortest
-- spelling, these bytes have led from `start` to the spot, with a `Step` for each. `output` is all that they put out:
-- `01` for `18 01`.
pub data IsFed (allowed : Spelling) (count : ℕ) : List ℕ → Spot → List ℕ → Type 0 where
  fresh : IsFed allowed count [] (start allowed count) []
  more : {bytes output : List ℕ} {spot : Spot} (byte : ℕ) (new : Spot) → byte < 256
      → IsFed allowed count bytes spot output → Step spot byte new
      → IsFed allowed count (bytes ++ byte ∷ []) (putting [] new) (output ++ new.put)
