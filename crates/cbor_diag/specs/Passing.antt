-- The text of a body as its bytes pass, byte by byte. The last byte of a character decides whether the character is
-- escaped.
use Rattle.std.specs.Prelude.{◌≡◌, ℕ, ◌+◌, ◌*◌, ◌%◌, Bool, false, ◌&&◌, nat_le, nat_lt, if◌then◌else◌}
use Rattle.std.specs.Prelude.{List, [], ◌∷◌, ◌++◌}
use Rattle.base64.specs.Engines.{standard, url_safe_no_pad}
use Rattle.base64.specs.GeneralPurpose.{encode_of}
use Rattle.base64.specs.declared.engine.general_purpose.GeneralPurpose.{GeneralPurpose}
use Rattle.ciborium_ll_text.specs.Digits.{hex_text}
use Rattle.cbor_escapes.specs.Escapes.{escape_text, is_acted_on}
use Rattle.cbor_diag.specs.declared.strings.held.Held.{Held}
use Rattle.cbor_diag.specs.declared.strings.held.Held.TheVariants as h
use Rattle.cbor_diag.specs.declared.strings.quotes.Quotes.{Quotes}
use Rattle.cbor_diag.specs.declared.strings.quotes.Quotes.TheVariants as q
use Rattle.cbor_diag.specs.Notation.{character_notation, upper_text}

-- ---- one byte of a text

-- The byte begins a character of two or three bytes (Unicode, Table 3-7). `c2` and `ef` do, and `f0` does not.
abbrev pub is_lead : ℕ → Bool
is_lead byte = nat_le 0xc2 byte && nat_lt byte 0xf0

-- The character of two bytes (RFC 3629, 3). `c2 9b` is U+009B.
abbrev pub two_code : ℕ → ℕ → ℕ
two_code first second = (first % 32) * 64 + second % 64

-- The character of three bytes (RFC 3629, 3). `e2 80 ae` is U+202E.
abbrev pub three_code : ℕ → ℕ → ℕ → ℕ
three_code first second third = (first % 16) * 4096 + ((second % 64) * 64 + third % 64)

-- The bytes of a character, or its escape. `e2 80 ae` gives `\u202e`, and `e2 82 ac` gives itself.
abbrev pub shown_character : ℕ → List ℕ → List ℕ
shown_character code bytes = if is_acted_on code then escape_text code else bytes

-- A byte that begins no character of two or three bytes. `0a` gives `\n`, and `f0` gives itself.
abbrev pub byte_notation : ℕ → List ℕ
byte_notation byte = if nat_lt byte 128 then character_notation byte else byte ∷ []

-- The byte stands for itself in a text: it begins no character of two or three bytes, and no escape spells it. `61` and
-- `f0` do, and `0a` does not.
abbrev pub StandsForItself : ℕ → Type 0
StandsForItself byte = (is_lead byte ≡ false) × (byte_notation byte ≡ byte ∷ [])

-- The text of the next byte of a text, after the bytes that are held. After `e2 80` the byte `ae` gives `\u202e`.
abbrev pub next_text : Held → ℕ → List ℕ
next_text h.Nothing byte = if is_lead byte then [] else byte_notation byte
next_text (h.One first) byte =
    if nat_lt first 0xe0 then shown_character (two_code first byte) (first ∷ byte ∷ []) else []
next_text (h.Two first second) byte =
    shown_character (three_code first second byte) (first ∷ second ∷ byte ∷ [])

-- The bytes that are held after the next byte of a text. After `e2` and `80` both are held, and after `c2` and `9b`
-- none is.
abbrev pub held_after : Held → ℕ → Held
held_after h.Nothing byte = if is_lead byte then h.One byte else h.Nothing
held_after (h.One first) byte = if nat_lt first 0xe0 then h.Nothing else h.Two first byte
held_after (h.Two first second) byte = h.Nothing

-- ---- groups of three bytes

-- The bytes that are held after the next byte, if each group of three bytes is shown as one: up to two bytes. After `61`
-- the byte `62` is held too.
abbrev pub held_grouped : Held → ℕ → Held
held_grouped h.Nothing byte = h.One byte
held_grouped (h.One first) byte = h.Two first byte
held_grouped (h.Two first second) byte = h.Nothing

-- The text of the group that the next byte ends, by an engine of the kit's `base64` (RFC 4648, 4). After `61 62` the
-- byte `63` gives `YWJj`, and after `61` the byte `62` gives nothing.
abbrev pub next_group : GeneralPurpose → Held → ℕ → List ℕ
next_group engine (h.Two first second) byte = encode_of engine (first ∷ second ∷ byte ∷ [])
next_group engine held byte = []

-- The text of the last group, of one or two bytes that are held (RFC 4648, 4). With padding the byte `61` gives `YQ==`.
abbrev pub end_group : GeneralPurpose → Held → List ℕ
end_group engine h.Nothing = []
end_group engine (h.One first) = encode_of engine (first ∷ [])
end_group engine (h.Two first second) = encode_of engine (first ∷ second ∷ [])

-- ---- the bytes of a body

-- The text of the next byte between quotes of the kind. A byte string holds no bytes. `c2` gives `c2` in a byte string,
-- and nothing in a text.
abbrev pub byte_text : Quotes → Held → ℕ → List ℕ
byte_text q.Hex held byte = hex_text byte
byte_text q.Text held byte = next_text held byte
byte_text q.Base16 held byte = upper_text byte
byte_text q.Base64 held byte = next_group standard held byte
byte_text q.Base64Url held byte = next_group url_safe_no_pad held byte

-- The bytes that are held after the next byte between quotes of the kind. `c2` is held in a text alone.
abbrev pub byte_held : Quotes → Held → ℕ → Held
byte_held q.Hex held byte = held
byte_held q.Text held byte = held_after held byte
byte_held q.Base16 held byte = held
byte_held q.Base64 held byte = held_grouped held byte
byte_held q.Base64Url held byte = held_grouped held byte

-- The text of bytes that pass, after the bytes that are held. In a text `61 c2` gives `a`.
abbrev pub passed_text : Quotes → Held → List ℕ → List ℕ
passed_text quotes held [] = []
passed_text quotes held (byte ∷ bytes) =
    byte_text quotes held byte ++ passed_text quotes (byte_held quotes held byte) bytes

-- The bytes that are held after the bytes that pass. In a text `c2` is held after `61 c2`.
abbrev pub passed_held : Quotes → Held → List ℕ → Held
passed_held quotes held [] = held
passed_held quotes held (byte ∷ bytes) = passed_held quotes (byte_held quotes held byte) bytes

-- The text after the last byte of a body, by the bytes that are held. A text and base16 have none. By base64 with
-- padding, if `61` is held, it is `YQ==`.
abbrev pub held_end : Quotes → Held → List ℕ
held_end q.Hex held = []
held_end q.Text held = []
held_end q.Base16 held = []
held_end q.Base64 held = end_group standard held
held_end q.Base64Url held = end_group url_safe_no_pad held
