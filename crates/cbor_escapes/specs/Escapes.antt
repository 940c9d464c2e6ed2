-- The characters that a terminal acts on, and their escapes.
use Rattle.std.specs.Prelude.{ℕ, ◌/◌, ◌%◌, ◌<◌, ◌≤◌, ◌≢◌, Bool, ◌&&◌, ◌||◌, ◌==◌, nat_le, nat_lt, List, [], ◌∷◌, ◌++◌}
use Rattle.std.specs.Prelude.{if◌then◌else◌, length, slice_index}
use Rattle.std.specs.Char.{encode_utf8}
use Rattle.ciborium_ll_text.specs.Digits.{hex_text}

-- The control characters: U+0000 to U+001F and U+007F to U+009F (Unicode, 23.1). U+000A is one, and U+0020 is none.
abbrev pub is_control : ℕ → Bool
is_control code = nat_lt code 0x20 || (nat_le 0x7f code && nat_le code 0x9f)

-- The characters with the property Bidi_Control (Unicode, PropList.txt of UAX #44; UAX #9, 2): U+061C, U+200E, U+200F,
-- U+202A to U+202E and U+2066 to U+2069. U+202E shows what follows it from right to left, and U+202F is none of these.
abbrev pub is_bidi_control : ℕ → Bool
is_bidi_control code =
    code == 0x61c
    || ((nat_le 0x200e code && nat_le code 0x200f)
    || ((nat_le 0x202a code && nat_le code 0x202e) || (nat_le 0x2066 code && nat_le code 0x2069)))

-- A terminal acts on the character, or shows the text around it in another order. It acts on U+001B and on U+202E, but
-- not on U+0061.
abbrev pub is_acted_on : ℕ → Bool
is_acted_on code = is_control code || is_bidi_control code

-- The escape of a character below U+10000: a backslash, `u` and four digits in lower case (RFC 8259, 7). U+202E gives
-- `\u202e`.
abbrev pub escape_text : ℕ → List ℕ
escape_text code = 92 ∷ 117 ∷ (hex_text (code / 256) ++ hex_text (code % 256))

-- A character as a text for a terminal has it: its escape if a terminal acts on it, and otherwise its bytes in UTF-8.
-- U+202E gives `\u202e`, and U+0061 gives `a`.
abbrev pub terminal_text : ℕ → List ℕ
terminal_text character = if is_acted_on character then escape_text character else encode_utf8 character

-- Characters as a text for a terminal has them, one after the other: U+0061 and U+000A give `a\u000a`.
abbrev pub terminal_texts : List ℕ → List ℕ
terminal_texts [] = []
terminal_texts (character ∷ characters) = terminal_text character ++ terminal_texts characters

-- The character stands for itself between quotes, and is one of ASCII: no control character, no quote and no backslash.
-- `61` and `20` are such, and `0a`, `22` and `7f` are none.
abbrev pub IsUnescaped : ℕ → Type 0
IsUnescaped character = (32 ≤ character) × (character < 127) × (character ≢ 34) × (character ≢ 92)

-- Each of the characters is such. Those of `61 20` are, and those of `61 0a` are not.
abbrev pub AreUnescaped : List ℕ → Type 0
AreUnescaped characters = (i : ℕ) → i < length characters → IsUnescaped (slice_index characters i)
