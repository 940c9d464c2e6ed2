-- The place of an item in a text, and the byte strings that are shown there as the item that they contain (RFC 8949, 8,
-- and RFC 8610, G.3).
use Rattle.std.specs.Prelude.{◌≡◌, ℕ, zero, suc, ◌-◌, ◌==◌, nat_le, nat_lt, Bool, true, false, ◌&&◌, List, Some}
use Rattle.ciborium_ll_grammar.specs.declared.spelling.Spelling.TheVariants.{Any}
use Rattle.ciborium_ll.specs.Types.Header.{Header}
use Rattle.ciborium_ll.specs.Types.Header.TheVariants as h
use Rattle.ciborium_ll.specs.Items.{IsItem}
use Rattle.cbor_embedded.specs.declared.Embedded.{Embedded}
use Rattle.cbor_embedded.specs.declared.Embedded.TheVariants as e
use Rattle.cbor_embedded.specs.declared.TheConstants.{ENCODED_ITEM}
use Rattle.cbor_diag.specs.declared.layout.Line.{Line}
use Rattle.cbor_diag.specs.declared.layout.Style.{Style}

-- ---- lines

-- The level of the content of a header: one deeper in an array or a map, and the same in a tag. At the level 0 the
-- content of `82` has the level 1, and that of `c1` the level 0.
abbrev pub level_within : Header → ℕ → ℕ
level_within (h.Array len) level = suc level
level_within (h.Map len) level = suc level
level_within header level = level

-- Whether a byte string that no header contains is asked for as an item: only if each one is.
abbrev pub asks_alone : Embedded → Bool
asks_alone e.Nowhere = false
asks_alone e.Tagged = false
asks_alone e.Everywhere = true

-- Whether a byte string within this header is asked for as an item. With `Tagged` it is within the tag 24, `d8 18`
-- (RFC 8949, 3.4.5.1), and not within `81`.
abbrev pub asks_within : Embedded → Header → Bool
asks_within e.Nowhere header = false
asks_within e.Tagged (h.Tag number) = number == ENCODED_ITEM
asks_within e.Tagged header = false
asks_within e.Everywhere header = true

-- The line of an item that no header contains. With `Everywhere` a byte string such as `41 00` is asked for there.
abbrev pub first_line : Style → Embedded → Line
first_line style embedded = record { style = style; level = 0; embedded = embedded; is_asked = asks_alone embedded }

-- The line of the content of a header. At the level 0 the content of `82` has the level 1.
abbrev pub line_within : Header → Line → Line
line_within header line = record {
  style = line.style;
  level = level_within header line.level;
  embedded = line.embedded;
  is_asked = asks_within line.embedded header;
}

-- The line of the item that a byte string contains: it has the level of the string. In `<<[1]>>` the array has the
-- level 0.
abbrev pub line_inside : Line → Line
line_inside line = record {
  style = line.style;
  level = line.level;
  embedded = line.embedded;
  is_asked = asks_alone line.embedded;
}

-- ---- places

-- A place: its line, how many levels are left there, how many bytes of a body fit into the lent memory, and how many
-- strings may contain one another. If 2 strings may, `42 41 f6` is shown as `<<<<null>>>>`.
pub record Place : Type 0 where
  pub line : Line
  pub levels : ℕ
  pub room : ℕ
  pub strings : ℕ

-- A number that means something only if some string is shown as an item: 3, or 0 if none is.
abbrev pub if_any : ℕ → ℕ → ℕ
if_any zero number = 0
if_any (suc strings) number = number

-- The place of this line. If no string is shown as an item, levels and room mean nothing. With 1 string, 2 levels and 64
-- bytes, these are the numbers of the place.
abbrev pub place_of : Line → ℕ → ℕ → ℕ → Place
place_of line strings levels room =
    record { line = line; levels = if_any strings levels; room = if_any strings room; strings = strings }

-- The place of an item that no header contains, in a text that shows no string as an item.
abbrev pub first_place : Style → Place
first_place style = place_of (first_line style e.Nowhere) 0 0 0

-- The place of the content of a header: with one level less, as after `82`.
abbrev pub place_within : Header → Place → Place
place_within header place = record {
  line = line_within header place.line;
  levels = place.levels - 1;
  room = place.room;
  strings = place.strings;
}

-- One string less: 1 of 2.
abbrev pub strings_inside : ℕ → ℕ
strings_inside zero = zero
strings_inside (suc strings) = strings

-- The place of the item that a byte string of this length contains: with one level less, as in a tag, and in the memory
-- that the string leaves. If 64 bytes fit, 62 fit within `42 41 f6`.
abbrev pub place_inside : ℕ → Place → Place
place_inside len place =
    place_of (line_inside place.line) (strings_inside place.strings) (place.levels - 1) (place.room - len)

-- Whether a string of this header is read into the memory before it is shown. It is a byte string of a definite length
-- that is asked for as an item, that fits, and for which a level is left. With 1 byte of memory it can be `41 00`, and
-- not `42 00 00`.
abbrev pub is_held : Place → Header → Bool
is_held place (h.Bytes (Some len)) =
    nat_lt 0 place.strings && (place.line.is_asked && (nat_lt 0 place.levels && nat_le len place.room))
is_held place header = false

-- A string with this header and this body is shown as the item that its body is. The item may be in any spelling.
-- `41 00` can be so, and `42 00 00` and `41 82` never are.
abbrev pub IsEmbedded : Place → Header → List ℕ → Type 0
IsEmbedded place header body = (is_held place header ≡ true) × IsItem Any (place.levels - 1) body
