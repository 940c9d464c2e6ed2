-- The *spot* that the bytes so far have come to. `proofs/Waiting.antt` says what a spot means: which bytes after it
-- make a whole item of all. `Tells` says it of the bytes alone.
use Rattle.std.specs.Prelude.{ℕ, zero, suc, ◌-◌, true, false, List, [], ◌∷◌, Option, Some, None}
use Rattle.ciborium_ll_grammar.specs.declared.spelling.Spelling.{Spelling}
use Rattle.ciborium_ll_grammar.specs.declared.hdr.Header.{Header}
use Rattle.ciborium_ll_grammar.specs.declared.hdr.Header.TheVariants as h
use Rattle.ciborium_ll_grammar.specs.Title.{title_len}
use Rattle.ciborium_ll_text.specs.declared.state.State.TheVariants as s
use Rattle.ciborium_ll_grammar.specs.declared.remaining.Remaining.{Remaining}
use Rattle.cbor_checker.specs.declared.phase.Phase.{Phase}
use Rattle.cbor_checker.specs.declared.phase.Phase.TheVariants as p
use Rattle.cbor_parser.specs.declared.strings.StringKind.{StringKind}
use Rattle.cbor_parser.specs.declared.strings.StringKind.TheVariants as k
use Rattle.cbor_parser.specs.declared.strings.Within.{Within}
use Rattle.cbor_parser.specs.declared.strings.Within.TheVariants as w
use Rattle.cbor_parser.specs.Strings.{within_after}
use Rattle.cbor_checker.specs.declared.phase.Fault.TheVariants as f
use Rattle.ciborium_ll_grammar.specs.Remaining.{contents, next}
use Rattle.cbor_checker.specs.Levels.{ends_before}

-- The parts in turn: whether only the shortest spelling is taken, what is due, the bytes of a title that isn't whole,
-- and the open strings. Then the levels left, the nests around the item (the innermost first), the place that a fault
-- would name, and how many bytes came. After `82 19` with depth 3, the front is `19`, two levels are left, there is one
-- nest, the place is 1 and the offset 2.
pub record Spot : Type 0 where
  pub allowed : Spelling
  pub phase : Phase
  pub front : List ℕ
  pub within : Within
  pub depth : ℕ
  pub levels : List Remaining
  pub place : ℕ
  pub offset : ℕ

-- The same spot with another phase, as with `Bytes(2)` after `42`.
abbrev pub at_phase : Phase → Spot → Spot
at_phase phase spot = record spot { phase = phase }

-- An item is due in the innermost nest. The first of `levels` is the rest of that nest after it: one item after `82`.
abbrev pub item_due : ℕ → List Remaining → Spot → Spot
item_due depth levels spot =
    record spot { phase = p.Title; within = w.Nothing; depth = depth; levels = levels }

-- The spot after a whole item: nests that are done end too, as the array of `82 01 02` with its second item. Without a
-- nest left, the whole item has ended (RFC 7049, 2.1, 2.2.1 and 2.4).
abbrev pub settled : ℕ → List Remaining → Spot → Spot
settled depth [] spot = record spot { phase = p.Ended; within = w.Nothing; depth = depth; levels = [] }
settled depth (level ∷ levels) spot =
    elim (next level) [ None ↦ settled (suc depth) levels spot | Some left ↦ item_due depth (left ∷ levels) spot ]

-- The spot after a whole item: after the `01` of `82 01 02`, the second item is due.
abbrev pub item_done : Spot → Spot
item_done spot = settled spot.depth spot.levels spot

-- The spot after a string of a definite length (RFC 7049, 2.2.2). The string is an item, or a piece of an open string,
-- as `41 01` in `5f 41 01 ff`.
abbrev pub string_done : Within → Spot → Spot
string_done w.Nothing spot = item_done spot
string_done (w.Open kind more) spot = at_phase p.Title spot

-- This many bytes of a byte string are due; with 0, as after `40`, the string is done (RFC 7049, 2.1).
abbrev pub bytes_due : ℕ → Spot → Spot
bytes_due zero spot = string_done spot.within spot
bytes_due (suc len) spot = at_phase (p.Bytes (suc len)) spot

-- This many bytes of a text are due, from its first byte on; with 0, as after `60`, the text is done (RFC 7049, 2.1).
abbrev pub text_due : ℕ → Spot → Spot
text_due zero spot = string_done spot.within spot
text_due (suc len) spot = at_phase (p.Text (suc len) s.Between) spot

-- A string of this kind is open, and a piece of it or a break is due, as after `5f` (RFC 7049, 2.2.2).
abbrev pub string_open : StringKind → Spot → Spot
string_open kind spot = record spot { phase = p.Title; within = w.Open kind zero }

-- The spot after the title of a nest (RFC 7049, 2.1 and 2.4). Without a level left there is a fault, and an empty nest,
-- as `80`, is done.
abbrev pub nested : ℕ → Remaining → Spot → Spot
nested zero inner spot = at_phase (p.Faulted (f.Deep spot.place)) spot
nested (suc depth) inner spot = settled depth (inner ∷ spot.levels) spot

-- The spot after a break in place of an item (RFC 7049, 2.2.1): `9f ff` is done, and `81 ff` has a fault at 1.
abbrev pub broken : List Remaining → Spot → Spot
broken [] spot = at_phase (p.Faulted (f.Break spot.place)) spot
broken (level ∷ levels) spot =
    elim (ends_before level) [
      | true ↦ settled (suc spot.depth) levels spot
      | false ↦ at_phase (p.Faulted (f.Break spot.place)) spot
    ]

-- The bytes may not stand there: a fault of syntax at the place, as at 1 in `5f 61`.
abbrev pub refused : Spot → Spot
refused spot = at_phase (p.Faulted (f.Syntax spot.place)) spot

-- A fault in this text's body names the byte from which its shortest title would reach the body. In `78 01 ff` this is
-- the byte at 1.
abbrev pub body_placed : ℕ → Spot → Spot
body_placed len spot = record spot { place = spot.offset - title_len (h.Text (Some len)) }

-- The spot after the whole title of an item (RFC 7049, 2.1 to 2.4): `01` is a whole item, and `42` begins a body.
abbrev pub item_entered : Header → Spot → Spot
item_entered (h.Bytes (Some len)) spot = bytes_due len spot
item_entered (h.Bytes None) spot = string_open k.Bytes spot
item_entered (h.Text (Some len)) spot =
    text_due len (body_placed len spot)
item_entered (h.Text None) spot = string_open k.Text spot
item_entered (h.Tag number) spot = nested spot.depth (contents (h.Tag number)) spot
item_entered (h.Array count) spot = nested spot.depth (contents (h.Array count)) spot
item_entered (h.Map count) spot = nested spot.depth (contents (h.Map count)) spot
item_entered h.Break spot = broken spot.levels spot
item_entered header spot = item_done spot

-- The spot after the title of a string, or of a break, that may stand within strings (RFC 7049, 2.2.2): `41` begins a
-- body, and after `5f` a title is due.
abbrev pub piece_entered : Header → Spot → Spot
piece_entered (h.Bytes (Some len)) spot = bytes_due len spot
piece_entered (h.Text (Some len)) spot = text_due len spot
piece_entered header spot = at_phase p.Title spot

-- The spot after a whole title within strings, by the strings that are open after it (RFC 7049, 2.2.2). Within `5f`,
-- `41` begins a piece, `ff` ends the string, and `61` is a fault.
abbrev pub within_entered : Option Within → Header → Spot → Spot
within_entered None header spot = refused spot
within_entered (Some w.Nothing) header spot = item_done spot
within_entered (Some (w.Open kind more)) header spot = piece_entered header (record spot { within = w.Open kind more })

-- The spot after a whole title, of an item or within an open string. `01` is an item by itself, and a fault after `5f`.
abbrev pub entered : Within → Header → Spot → Spot
entered w.Nothing header spot = item_entered header spot
entered (w.Open kind more) header spot =
    within_entered (within_after spot.allowed (w.Open kind more) header) header spot
