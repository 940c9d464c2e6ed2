-- What a parser waits for (RFC 7049, 2.1).
use Rattle.std.specs.Prelude.{ℕ, zero, suc, ◌-◌, ◌%◌, Bool, true, false, List, [], Some, slice_index}
use Rattle.ciborium_ll_grammar.specs.declared.hdr.Header.{Header}
use Rattle.ciborium_ll_grammar.specs.declared.hdr.Header.TheVariants as h
use Rattle.ciborium_ll_grammar.specs.declared.limits.TheConstants.{MOST_KEPT}
use Rattle.ciborium_ll_grammar.specs.Title.{affix_len, title_len}
use Rattle.cbor_parser.specs.declared.phase.Phase.{Phase}
use Rattle.cbor_parser.specs.declared.phase.Phase.TheVariants as p
use Rattle.cbor_parser.specs.declared.strings.Within.{Within}
use Rattle.cbor_parser.specs.declared.strings.Within.TheVariants as w

-- The place of the fault of a text whose title stands from `start` to `end`. Within a string it is the start. Otherwise
-- it is the end less the length of the shortest title: late, if the title is a longer one. For `78 01 ff` it is 1.
abbrev pub text_place : Within → ℕ → ℕ → Header → ℕ
text_place w.Nothing start end header = end - title_len header
text_place (w.Open kind more) start end header = start

-- What is due after a title of this header, from `start` to `end`: the body of a string, if it has bytes, and otherwise
-- a title (RFC 7049, 2.1). After `42` it is a body of two bytes.
abbrev pub phase_after : Within → ℕ → ℕ → Header → Phase
phase_after within start end (h.Bytes (Some (suc len))) = p.Bytes (suc len)
phase_after within start end (h.Text (Some (suc len))) =
    p.Text (suc len) (text_place within start end (h.Text (Some (suc len))))
phase_after within start end header = p.Title

-- What is due if this many bytes of the body of a byte string are left: a title, if there are none. After `42 01` one
-- byte is left.
abbrev pub bytes_left : ℕ → Phase
bytes_left zero = p.Title
bytes_left (suc left) = p.Bytes (suc left)

-- What is due if this many bytes of the body of a text are left: a title, if there are none. After `62 61` one byte is
-- left.
abbrev pub text_left : ℕ → ℕ → Phase
text_left zero place = p.Title
text_left (suc left) place = p.Text (suc left) place

-- How many bytes a parser keeps at most: fewer than a title has, as `19 01`, and at most three of a text, as `e2 82`.
abbrev pub most_front : Phase → List ℕ → ℕ
most_front p.Title front = affix_len (slice_index front 0 % 32)
most_front (p.Bytes left) front = 0
most_front (p.Text left place) front = MOST_KEPT
most_front (p.Faulted place) front = 0

-- If a body is due, it has bytes left: so it is with `Bytes(2)` after `42`, and not with `Bytes(0)`.
abbrev pub has_left : Phase → Bool
has_left (p.Bytes zero) = false
has_left (p.Text zero place) = false
has_left phase = true

-- The bytes that are kept of a character: `e2 82` within a text, and none if a title is due.
abbrev pub carried_of : Phase → List ℕ → List ℕ
carried_of (p.Text left place) front = front
carried_of phase front = []
