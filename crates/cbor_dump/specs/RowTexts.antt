-- The text of a row of a dump: its bytes as digits, indented by its level, and after a `#` their meaning, as RFC 8949
-- shows its examples (section 3).
use Rattle.std.specs.Prelude.{◌≡◌, ℕ, zero, suc, ◌-◌, ◌*◌, ◌==◌, min, List, [], ◌∷◌, ◌++◌, length, nat_le, nat_lt}
use Rattle.std.specs.Prelude.{◌^◌, ◌||◌, IsOk, Result}
use Rattle.std.specs.Prelude.{codes, decimal, negsuc, Option, Some, None, if◌then◌else◌}
use Rattle.std.specs.Fmt.{HasWritten, IsPlainFormatter, signed_decimal}
use Rattle.std.specs.declared.fmt.Error.{Error}
use Rattle.std.specs.declared.fmt.Formatter.{Formatter}
use Rattle.std.specs.Str.{chars, is_utf8}
use Rattle.ciborium_ll_text.specs.Digits.{hex_text}
use Rattle.cbor_escapes.specs.Escapes.{terminal_text}
use Rattle.ciborium_ll.specs.Types.Float.{Float}
use Rattle.ciborium_ll.specs.Types.Float.TheVariants as f
use Rattle.ciborium_ll.specs.Types.Header.{Header}
use Rattle.ciborium_ll.specs.Types.Header.TheVariants as h
use Rattle.cbor_floats.specs.Floats.{IsNumberText, float_value}
use Rattle.cbor_dump.specs.Tags.{tag_name}
use Rattle.cbor_dump.specs.Keys.{body_bytes}
use Rattle.cbor_dump.specs.declared.key.Key.{Key}
use Rattle.cbor_dump.specs.declared.key.Key.TheVariants as k
use Rattle.cbor_dump.specs.declared.rows.Meaning.{Meaning}
use Rattle.cbor_dump.specs.declared.rows.Meaning.TheVariants as m
use Rattle.cbor_dump.specs.declared.rows.Row.{Row}
use Rattle.cbor_dump.specs.declared.rows.Within.{Within}
use Rattle.cbor_dump.specs.declared.rows.Within.TheVariants as w

-- ---- bytes

-- This many spaces: 3 are `20 20 20`.
abbrev pub blank : ℕ → List ℕ
blank zero = []
blank (suc count) = 32 ∷ blank count

-- The bytes after the first byte, as digits, each after a space: `01 02` gives ` 01 02`.
abbrev pub more_text : List ℕ → List ℕ
more_text [] = []
more_text (byte ∷ bytes) = 32 ∷ (hex_text byte ++ more_text bytes)

-- Bytes as digits, with spaces between them. The bytes 130 and 1 give `82 01`.
abbrev pub digits_text : List ℕ → List ℕ
digits_text [] = []
digits_text (byte ∷ bytes) = hex_text byte ++ more_text bytes

-- ---- headers

-- A length or a count, or a star for the indefinite form (RFC 7049, 2.2): `83` gives `3`, and `9f` gives `*`.
abbrev pub count_text : Option ℕ → List ℕ
count_text (Some len) = decimal len
count_text None = 42 ∷ []

-- A simple value. The four values that have names are shown by name (RFC 7049, 2.3): `f4` gives `false`, and `e0` gives
-- `simple 0`.
abbrev pub simple_text : ℕ → List ℕ
simple_text number =
    if number == 20 then codes "false"
    else (if number == 21 then codes "true"
    else (if number == 22 then codes "null"
    else (if number == 23 then codes "undefined"
    else codes "simple " ++ decimal number)))

-- The width of a float, which its value follows (RFC 7049, 2.3): `f9 3c 00` gives `half `.
abbrev pub width_text : Float → List ℕ
width_text (f.Half bits) = codes "half "
width_text (f.Single bits) = codes "single "
width_text (f.Double bits) = codes "double "

-- A name in parentheses, if there is one: `epoch time` gives ` (epoch time)`.
abbrev pub name_text : Option (List ℕ) → List ℕ
name_text (Some name) = codes " (" ++ (name ++ codes ")")
name_text None = []

-- A tag by its number, and by its name if it is a common one: `tag 1 (epoch time)` or `tag 6`.
abbrev pub tag_text : ℕ → List ℕ
tag_text number = codes "tag " ++ (decimal number ++ name_text (tag_name number))

-- The text of a header, without the value of a float (RFC 7049, 2.1 to 2.4): `20` gives `-1`, `c6` gives `tag 6`, `82`
-- gives `array 2`, and `ff` gives `break`.
abbrev pub header_text : Header → List ℕ
header_text (h.Positive number) = decimal number
header_text (h.Negative number) = signed_decimal (negsuc number)
header_text (h.Float float) = width_text float
header_text (h.Simple number) = simple_text number
header_text (h.Tag number) = tag_text number
header_text h.Break = codes "break"
header_text (h.Bytes len) = codes "bytes " ++ count_text len
header_text (h.Text len) = codes "text " ++ count_text len
header_text (h.Array len) = codes "array " ++ count_text len
header_text (h.Map len) = codes "map " ++ count_text len

-- ---- characters

-- A character between quotes, with the escapes of JSON (RFC 8259, 7). A backslash, which is 92, precedes a quote, a
-- backslash or the letter of a control character. Each other character that a terminal acts on has `u` and four digits,
-- and any other character stands for itself. A line feed gives `\n`, and U+202E gives `\u202e`.
abbrev pub character_text : ℕ → List ℕ
character_text character =
    if character == 34 then 92 ∷ 34 ∷ []
    else (if character == 92 then 92 ∷ 92 ∷ []
    else (if character == 10 then 92 ∷ 110 ∷ []
    else (if character == 13 then 92 ∷ 114 ∷ []
    else (if character == 9 then 92 ∷ 116 ∷ []
    else terminal_text character))))

-- The texts of characters, joined: `61 0a` gives `a\n`.
abbrev pub characters_text : List ℕ → List ℕ
characters_text [] = []
characters_text (character ∷ characters) = character_text character ++ characters_text characters

-- The bytes if they are UTF-8, and otherwise nothing: `c3` alone gives nothing.
abbrev pub shown_text : List ℕ → List ℕ
shown_text bytes = if is_utf8 bytes then bytes else []

-- A text between quotes: `61 62` gives `"ab"`.
abbrev pub quoted_text : List ℕ → List ℕ
quoted_text text = 34 ∷ (characters_text (chars text) ++ 34 ∷ [])

-- ---- rows

-- The column of the `#` before a comment. In the row of the title `01` 34 spaces precede it.
abbrev pub comment_column : ℕ
comment_column = 36

-- The most levels that an indent shows. The levels 8 and 9 have the same indent.
abbrev pub most_indent : ℕ
most_indent = 8

-- The columns of an indent: three for each level that it shows. At the level 2 they are 6, and at 9 they are 24.
abbrev pub indent : ℕ → ℕ
indent level = 3 * min level most_indent

-- A row without a comment: the indent and the bytes. At the level 1 the byte `01` has 3 spaces before it.
abbrev pub bare_text : ℕ → List ℕ → List ℕ
bare_text level bytes = blank (indent level) ++ digits_text bytes

-- The columns that `count` bytes, each with a space, leave before a comment: one byte leaves 33, and nine leave 9.
abbrev pub room_before : ℕ → ℕ
room_before count = comment_column - 3 * count

-- A row up to its comment: the indent, the bytes, and the `#` in its column. The indent is at most the room that the
-- bytes leave. At the level 1 the byte `01` has 3 spaces before it, and 30 spaces and ` # ` after it.
abbrev pub commented_text : ℕ → List ℕ → List ℕ
commented_text level bytes =
    let room = room_before (length bytes) in
    let shift = min (indent level) room in
    blank shift ++ (digits_text bytes ++ (blank (room - shift) ++ codes " # "))

-- The level of a title that an indent can't show: the level 12 gives `level 12 `, and the level 8 gives nothing.
abbrev pub level_text : ℕ → List ℕ
level_text level = if nat_le level most_indent then [] else codes "level " ++ (decimal level ++ codes " ")

-- How many columns fewer a key has if the value's title has this header: a float takes more columns than other headers.
-- For `fb` they are 5, and for `61` none.
abbrev pub float_columns : Header → ℕ
float_columns (h.Float float) = 5
float_columns header = 0

-- The most columns of a string that is shown as a key, without its quotes, before a title of this header. They are
-- fewer if the level stands before the key. Before `61` they are 22 at the level 2, and 12 at the level 9.
abbrev pub key_columns : ℕ → Header → ℕ
key_columns level header = (if nat_le level most_indent then 22 else 12) - float_columns header

-- A key that is not shown: an item that has no name, or one that its row has no room for.
abbrev pub no_key : List ℕ
no_key = codes ".."

-- An integer as a key, if the columns have room for it. In 22 columns each number has room, and in 7 columns those of 7
-- digits do.
abbrev pub number_key : ℕ → ℕ → List ℕ → List ℕ
number_key most number text = if nat_lt 19 most || nat_lt number (10 ^ most) then text else no_key

-- A text as a key, if its characters between quotes have at most `most` bytes: `61 6c 67` gives `"alg"`.
abbrev pub text_key : ℕ → List ℕ → List ℕ
text_key most bytes =
    let text = shown_text bytes in
    if nat_le (length (characters_text (chars text))) most then quoted_text text else no_key

-- A byte string as a key, if the columns have room for three of each byte: `01 02` gives `h'01 02'`.
abbrev pub bytes_key : ℕ → List ℕ → List ℕ
bytes_key most bytes =
    if nat_le (3 * length bytes) most then codes "h'" ++ (digits_text bytes ++ codes "'") else no_key

-- A key in this many columns: its integer or its string, or two points. `Positive(1)` gives `1`.
abbrev pub key_text : ℕ → Key → List ℕ
key_text most (k.Positive number) = number_key most number (decimal number)
key_text most (k.Negative number) = number_key most number (signed_decimal (negsuc number))
key_text most (k.Text body) = text_key most (body_bytes body)
key_text most (k.Bytes body) = bytes_key most (body_bytes body)
key_text most k.Other = no_key

-- The place of a title within an array or a map, with a key in this many columns: the index 3 gives `[3] `, and the key
-- 3 gives `{3} `.
abbrev pub within_text : ℕ → Within → List ℕ
within_text most w.Nothing = []
within_text most (w.Index index) = codes "[" ++ (decimal index ++ codes "] ")
within_text most (w.Key key) = codes "{" ++ (key_text most key ++ codes "} ")

-- The text of a row of this meaning, without the value of a float. Bytes of a byte string and bytes at fault have no
-- comment. At the level 0 the text row of `61` gives `61`, 33 spaces and ` # "a"`.
abbrev pub text_of : Meaning → ℕ → Within → List ℕ → List ℕ
text_of (m.Header header) level within bytes =
    commented_text level bytes
    ++ (level_text level ++ (within_text (key_columns level header) within ++ header_text header))
text_of m.Text level within bytes = commented_text level bytes ++ quoted_text (shown_text bytes)
text_of m.Bytes level within bytes = bare_text level bytes
text_of m.Fault level within bytes = bare_text level bytes

-- The text of a row, without the value of a float. At the level 1 the row of the title `01` is 3 spaces, `01`, 30
-- spaces and ` # 1`.
abbrev pub row_text : Row → List ℕ
row_text row = text_of row.meaning row.level row.within row.bytes.now

-- ---- values

-- The text of a float's value, in diagnostic notation (RFC 8949, 8), and no text for other headers. For `f9 3c 00` it
-- is `1.0`.
abbrev pub IsHeaderValue : Header → List ℕ → Type 0
IsHeaderValue (h.Float float) text = IsNumberText (float_value float) text
IsHeaderValue header text = text ≡ []

-- The text of a float's value, and no text for other meanings. For a part of a text it is empty.
abbrev pub IsValue : Meaning → List ℕ → Type 0
IsValue (m.Header header) text = IsHeaderValue header text
IsValue meaning text = text ≡ []

-- The whole text of a row: the value of a float follows the name of its width. The row of `f9 3c 00` ends with
-- ` # half 1.0`.
pub record IsRowText (row : Row) (text : List ℕ) : Type 0 where
  pub value : List ℕ
  pub is_value : IsValue row.meaning value
  pub is : text ≡ row_text row ++ value

-- The text of a row whose header is this, unless several digits are read as its value. `01` has one such text.
abbrev pub known_header : Header → List ℕ → Option (List ℕ)
known_header (h.Float float) text = None
known_header header text = Some text

-- The text of a row of this meaning, unless several digits are read as its value. A float's is not known.
abbrev pub known_of : Meaning → List ℕ → Option (List ℕ)
known_of (m.Header header) text = known_header header text
known_of meaning text = Some text

-- The one text of a row, unless it shows a float. The row of `01` has one text, and that of `f9 3c 00` has several.
abbrev pub known_text : Row → Option (List ℕ)
known_text row = known_of row.meaning (row_text row)

-- A text with these facts was written. For the value 1.0 it can be `1.0`.
pub record HasWrittenOne {W : Type 0} (took : W → List ℕ → W → Type 0) (f : Formatter W) (IsText : List ℕ → Type 0)
    (g : Formatter W) : Type 0 where
  pub text : List ℕ
  pub is_text : IsText text
  pub written : HasWritten took f text g

-- If the formatter is plain and the answer is `Ok`, a text with these facts was written: `1.0` for the value 1.0.
abbrev pub WritesOneOnOk : {W : Type 0} → (W → List ℕ → W → Type 0) → Formatter W → Result (Unit {0}) Error
    → (List ℕ → Type 0) → Formatter W → Type 0
WritesOneOnOk took f result IsText g = IsPlainFormatter f → IsOk result → HasWrittenOne took f IsText g
