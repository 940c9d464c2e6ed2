-- The JSON of numbers and simple values (RFC 8949, section 6.1; RFC 8259, sections 3 and 6).
use Rattle.std.specs.Prelude.{◌≡◌, ℕ, ◌==◌, Bool, true, false, List, [], ◌∷◌, ◌++◌, codes, decimal, negsuc}
use Rattle.std.specs.Prelude.{if◌then◌else◌}
use Rattle.std.specs.Float.{Float, fin}
use Rattle.std.specs.Fmt.{signed_decimal}
use Rattle.ciborium_ll.specs.Types.Float.{Float as Raw}
use Rattle.ciborium_ll.specs.Types.Header.{Header}
use Rattle.ciborium_ll.specs.Types.Header.TheVariants as h
use Rattle.cbor_floats.specs.Floats.{IsNumberText, float_value}

-- A simple value: by its name if it is `false` or `true`, and otherwise `null`, which also replaces those that JSON has
-- not (RFC 8949, 6.1). `f4` gives `false`, and `f7` gives `null`.
abbrev pub simple_json : ℕ → List ℕ
simple_json number =
    if number == 20 then codes "false"
    else (if number == 21 then codes "true"
    else codes "null")

-- The text of a float's value: digits that are read as exactly this value if it is finite, and otherwise `null` (RFC
-- 8949, 6.1). 10 to the power of 20 gives `1.0e+20`.
abbrev pub IsValueJson : Float → List ℕ → Type 0
IsValueJson (fin sign number exponent) text = IsNumberText (fin sign number exponent) text
IsValueJson value text = text ≡ codes "null"

-- The text of a float, by its value. `f9 3c 00` gives `1.0`, and `f9 7c 00` gives `null`.
abbrev pub IsFloatJson : Raw → List ℕ → Type 0
IsFloatJson float text = IsValueJson (float_value float) text

-- The text of an integer, a float or a simple value that is no key. An integer has its digits in base 10, and a
-- negative integer is -1 - n (RFC 7049, 2.1): `20` gives `-1`.
abbrev pub IsScalarText : Header → List ℕ → Type 0
IsScalarText (h.Positive number) text = text ≡ decimal number
IsScalarText (h.Negative number) text = text ≡ signed_decimal (negsuc number)
IsScalarText (h.Float float) text = IsFloatJson float text
IsScalarText (h.Simple number) text = text ≡ simple_json number
IsScalarText header text = ⊥

-- A text by whether it is that of a key: a key stands between quotes, which are 34 (RFC 8259, 4). `1` gives `"1"`.
abbrev pub key_text : Bool → List ℕ → List ℕ
key_text false text = text
key_text true text = (34 ∷ text) ++ 34 ∷ []

-- The text of an integer, a float or a simple value, by whether it is a key. The key `20` gives `"-1"`.
abbrev pub IsScalarJson : Bool → Header → List ℕ → Type 0
IsScalarJson key header text = (inner : List ℕ) × IsScalarText header inner × (text ≡ key_text key inner)
