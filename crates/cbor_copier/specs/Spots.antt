-- The *spot* that the bytes so far have come to. `proofs/Reached.antt` says what a spot means: which elements came,
-- what is due after them, and what was put out. The laws `exact_copies` and `spelled_so_far` say it of the bytes alone.
use Rattle.std.specs.Prelude.{ℕ, zero, suc, ◌-◌, List, Option, Some, None}
use Rattle.ciborium_ll_grammar.specs.declared.spelling.Spelling.{Spelling}
use Rattle.ciborium_ll_grammar.specs.declared.hdr.Header.{Header}
use Rattle.ciborium_ll_grammar.specs.declared.hdr.Header.TheVariants as h
use Rattle.ciborium_ll_grammar.specs.Title.{shortest_title, title_len}
use Rattle.ciborium_ll_text.specs.declared.state.State.TheVariants as s
use Rattle.ciborium_ll_text.specs.Text.{IsCharacters}
use Rattle.cbor_copier.specs.declared.phase.Phase.{Phase}
use Rattle.cbor_copier.specs.declared.phase.Phase.TheVariants as p
use Rattle.cbor_parser.specs.declared.strings.StringKind.{StringKind}
use Rattle.cbor_parser.specs.declared.strings.StringKind.TheVariants as k
use Rattle.cbor_parser.specs.declared.strings.Within.{Within}
use Rattle.cbor_parser.specs.declared.strings.Within.TheVariants as w
use Rattle.cbor_parser.specs.Strings.{within_after}

-- The parts in turn: whether only the shortest spelling is taken, what is due, the bytes of a title or a character that
-- are held back, the open strings, and how many elements aren't whole. Then the place that a fault would name, how many
-- bytes came, and what the last byte put out. After `81 19` of two elements, `19` is held back, one element isn't
-- whole, the place is 1 and the offset 2.
pub record Spot : Type 0 where
  pub allowed : Spelling
  pub phase : Phase
  pub front : List ℕ
  pub within : Within
  pub left : ℕ
  pub place : ℕ
  pub offset : ℕ
  pub put : List ℕ

-- The same spot with another phase, as with `Bytes(2)` after `42`.
abbrev pub at_phase : Phase → Spot → Spot
at_phase phase spot = record spot { phase = phase }

-- The same spot, with these bytes put out: `01` after `18 01`.
abbrev pub putting : List ℕ → Spot → Spot
putting bytes spot = record spot { put = bytes }

-- This many elements are due; with 0, the copy has ended.
abbrev pub elements_due : ℕ → Spot → Spot
elements_due zero spot = record spot { phase = p.Ended; within = w.Nothing; left = zero }
elements_due (suc left) spot = record spot { phase = p.Title; within = w.Nothing; left = suc left }

-- The spot after a whole element: if 2 were left, 1 is left.
abbrev pub element_done : Spot → Spot
element_done spot = elements_due (spot.left - 1) spot

-- The spot after a string of a definite length (RFC 7049, 2.2.2). The string is an element, or a piece of an open
-- string, as `41 01` in `5f 41 01 ff`.
abbrev pub string_done : Within → Spot → Spot
string_done w.Nothing spot = element_done spot
string_done (w.Open kind more) spot = at_phase p.Title spot

-- The phase in a body with this many bytes left: `Bytes(2)` for two bytes of a byte string, as after `42`.
abbrev pub body_phase : StringKind → ℕ → Phase
body_phase k.Bytes len = p.Bytes len
body_phase k.Text len = p.Text len s.Between

-- Bytes of a body that go out as they are: any of a byte string, whole characters of a text, as `c3 bc` (RFC 7049,
-- 2.2.2).
abbrev pub IsPutOut : StringKind → List ℕ → Type 0
IsPutOut k.Bytes bytes = Unit {0}
IsPutOut k.Text bytes = IsCharacters bytes

-- This many bytes of a body are due; with 0, as after `40`, the string is done (RFC 7049, 2.1).
abbrev pub body_due : StringKind → ℕ → Spot → Spot
body_due kind zero spot = string_done spot.within spot
body_due kind (suc len) spot = at_phase (body_phase kind (suc len)) spot

-- Strings are open, and a piece of them or a break is due, as after `5f` (RFC 7049, 2.2.2).
abbrev pub string_open : StringKind → ℕ → Spot → Spot
string_open kind more spot = record spot { phase = p.Title; within = w.Open kind more }

-- The bytes may not stand there: a fault of syntax at the place, as at 1 in `5f 61`.
abbrev pub refused : Spot → Spot
refused spot = at_phase (p.Faulted spot.place) spot

-- The spot after the title of a string that is an element. A fault in its body names the byte from which its shortest
-- title would reach the body. In `78 01 ff` this is the byte at 1.
abbrev pub string_entered : StringKind → Header → Option ℕ → Spot → Spot
string_entered kind header (Some len) spot =
    body_due kind len (record spot { place = spot.offset - title_len header })
string_entered kind header None spot = string_open kind zero spot

-- The spot after the whole title of an element: in a string, as after `41`, or after a whole element, as after `81`
-- (RFC 7049, 2.1).
abbrev pub header_entered : Header → Spot → Spot
header_entered (h.Bytes len) spot = string_entered k.Bytes (h.Bytes len) len spot
header_entered (h.Text len) spot = string_entered k.Text (h.Text len) len spot
header_entered header spot = element_done spot

-- The same, with the shortest title put out (RFC 7049, 2.1 and 3.9): `01` for `18 01`.
abbrev pub element_entered : Header → Spot → Spot
element_entered header spot = header_entered header (putting (shortest_title header) spot)

-- The spot after a title that may stand within open strings, and after which these strings are open. A piece goes out
-- with its shortest title. More opens do not go out, and of the breaks only the last one does (RFC 7049, 2.2.2). So
-- `5f 5f ff ff` puts out `5f ff`.
abbrev pub piece_entered : Within → Header → Spot → Spot
piece_entered after (h.Bytes (Some len)) spot =
    body_due k.Bytes len (putting (shortest_title (h.Bytes (Some len))) spot)
piece_entered after (h.Text (Some len)) spot =
    body_due k.Text len (putting (shortest_title (h.Text (Some len))) spot)
piece_entered w.Nothing header spot = element_done (putting (shortest_title h.Break) spot)
piece_entered (w.Open kind more) header spot = string_open kind more spot

-- The same, by the strings that are open after the title, or a fault if the title may not stand there, as `61` within a
-- byte string.
abbrev pub within_entered : Option Within → Header → Spot → Spot
within_entered None header spot = refused spot
within_entered (Some after) header spot = piece_entered after header spot

-- The spot after a whole title, of an element or within an open string. `01` is an element, and a fault after `5f`.
-- Within a byte string, `41` begins a piece, and `ff` ends the string.
abbrev pub entered : Within → Header → Spot → Spot
entered w.Nothing header spot = element_entered header spot
entered (w.Open kind more) header spot =
    within_entered (within_after spot.allowed (w.Open kind more) header) header spot
