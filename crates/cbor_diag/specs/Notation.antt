-- The diagnostic notation of a header that is a whole item, and of bytes in quotes (RFC 8949, section 8).
use Rattle.std.specs.Prelude.{ℕ, ◌+◌, ◌/◌, ◌%◌, ◌==◌, nat_lt, List, [], ◌∷◌, ◌++◌, codes, decimal, if◌then◌else◌}
use Rattle.std.specs.Prelude.{Option, Some, None, negsuc}
use Rattle.std.specs.Fmt.{signed_decimal}
use Rattle.std.specs.Str.{chars}
use Rattle.base64.specs.Engines.{standard, url_safe_no_pad}
use Rattle.base64.specs.GeneralPurpose.{encode_of}
use Rattle.ciborium_ll_text.specs.Digits.{hex_text}
use Rattle.ciborium_ll.specs.Types.Header.{Header}
use Rattle.ciborium_ll.specs.Types.Header.TheVariants as h
use Rattle.cbor_escapes.specs.Escapes.{terminal_text}
use Rattle.cbor_diag.specs.declared.marks.Mark.{Mark}
use Rattle.cbor_diag.specs.Marks.{is_marked, mark_text}
use Rattle.cbor_diag.specs.declared.strings.quotes.Quotes.{Quotes}
use Rattle.cbor_diag.specs.declared.strings.quotes.Quotes.TheVariants as q

-- A simple value without a mark: the four values that have names by these, and others as `simple(N)` (RFC 8949, 8).
-- `f4` gives `false`, and `e0` gives `simple(0)`.
abbrev pub name_text : ℕ → List ℕ
name_text number =
    if number == 20 then codes "false"
    else (if number == 21 then codes "true"
    else (if number == 22 then codes "null"
    else (if number == 23 then codes "undefined"
    else (codes "simple(" ++ decimal number) ++ codes ")")))

-- A simple value. A mark follows its number, and then its name is not used: in exact notation `f8 14` gives
-- `simple(20_0)`, and `f4` gives `false`.
abbrev pub simple_notation : ℕ → Mark → List ℕ
simple_notation number mark =
    if is_marked mark then ((codes "simple(" ++ decimal number) ++ mark_text mark) ++ codes ")" else name_text number

-- The text of a header that is an integer or a simple value, which is the whole item. An integer has its digits in base
-- 10, and then the mark of its title. A negative integer is -1 - n (RFC 7049, 2.1): `20` gives `-1`.
abbrev pub header_notation : Header → Mark → Option (List ℕ)
header_notation (h.Positive number) mark = Some (decimal number ++ mark_text mark)
header_notation (h.Negative number) mark = Some (signed_decimal (negsuc number) ++ mark_text mark)
header_notation (h.Simple number) mark = Some (simple_notation number mark)
header_notation header mark = None

-- A character of a text between its quotes, with the escapes of JSON (RFC 8259, 7). A backslash, which is 92, precedes
-- a quote, a backslash or the letter of a control character. Each other character that a terminal acts on has `u` and
-- four digits, and any other character stands for itself. U+000A gives `\n`, and U+202E gives `\u202e`.
abbrev pub character_notation : ℕ → List ℕ
character_notation character =
    if character == 34 then 92 ∷ 34 ∷ []
    else (if character == 92 then 92 ∷ 92 ∷ []
    else (if character == 8 then 92 ∷ 98 ∷ []
    else (if character == 9 then 92 ∷ 116 ∷ []
    else (if character == 10 then 92 ∷ 110 ∷ []
    else (if character == 12 then 92 ∷ 102 ∷ []
    else (if character == 13 then 92 ∷ 114 ∷ []
    else terminal_text character))))))

-- Characters of a text between its quotes, one after the other: U+0061 and U+009B give `a\u009b`.
abbrev pub characters_notation : List ℕ → List ℕ
characters_notation [] = []
characters_notation (character ∷ characters) = character_notation character ++ characters_notation characters

-- Bytes of a byte string, with two digits for each (RFC 8949, 8). `61 0a` gives `610a`.
abbrev pub bytes_notation : List ℕ → List ℕ
bytes_notation [] = []
bytes_notation (byte ∷ bytes) = hex_text byte ++ bytes_notation bytes

-- The digit in upper case of a number below 16: `0` is 48, and `A` is 65.
abbrev pub upper_digit : ℕ → ℕ
upper_digit number = if nat_lt number 10 then 48 + number else 55 + number

-- A byte as two digits in upper case, the upper half first (RFC 4648, 8): the byte 2b is `2B`.
abbrev pub upper_text : ℕ → List ℕ
upper_text byte = upper_digit (byte / 16) ∷ upper_digit (byte % 16) ∷ []

-- Bytes in upper case, with two digits for each (RFC 4648, 8). `61 0a` gives `610A`.
abbrev pub upper_notation : List ℕ → List ℕ
upper_notation [] = []
upper_notation (byte ∷ bytes) = upper_text byte ++ upper_notation bytes

-- A body between quotes of the kind: by its digits, or, if it is a text in UTF-8, by its characters (RFC 8949, 8).
-- `61 0a` gives `610a` in a byte string, and `a\n` in a text.
abbrev pub body_text : Quotes → List ℕ → List ℕ
body_text q.Hex bytes = bytes_notation bytes
body_text q.Text bytes = characters_notation (chars bytes)
body_text q.Base16 bytes = upper_notation bytes
body_text q.Base64 bytes = encode_of standard bytes
body_text q.Base64Url bytes = encode_of url_safe_no_pad bytes
