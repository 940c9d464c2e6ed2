-- The values of floats (RFC 7049, 2.3), and the texts of these values in diagnostic notation (RFC 8949, section 8).
use Rattle.std.specs.Prelude.{◌≡◌, ℕ, ◌+◌, ◌*◌, ◌/◌, ◌%◌, ◌^◌, ◌==◌, ◌≤◌, nat_lt, true, false, pos}
use Rattle.std.specs.Prelude.{List, [], ◌∷◌, ◌++◌, codes, length, Some, from_bits, if◌then◌else◌}
use Rattle.std.specs.Float.{Float, nan, inf, fin, binary32, binary64}
use Rattle.std.specs.Float as f
use Rattle.ryu.specs.Parse.{parse_float}
use Rattle.ryu.specs.Plain.{IsPlusNumber}
use Rattle.ciborium_ll_grammar.specs.declared.hdr.Float.{Float as Raw}
use Rattle.ciborium_ll_grammar.specs.declared.hdr.Float.TheVariants as raw

-- ---- the value

-- Two to the power of the exponent less 25, as a double. The exponent 25 gives 1.0.
abbrev pub power_of_two : ℕ → Float
power_of_two exponent = from_bits binary64 ((exponent + 998) * 2 ^ 52)

-- The value of a half without its sign (RFC 7049, appendix D). The fraction has ten bits, and the exponent five. The
-- exponent 15 and the fraction 0 give 1.0, and 31 and 1 give NaN.
abbrev pub half_size : ℕ → ℕ → Float
half_size exponent fraction =
    if exponent == 31 then (if fraction == 0 then inf false else nan)
    else (if exponent == 0 then f.Ieee.mul binary64 (f.Ieee.of_int binary64 (pos fraction)) (power_of_two 1)
    else f.Ieee.mul binary64 (f.Ieee.of_int binary64 (pos (fraction + 1024))) (power_of_two exponent))

-- The value of a half by its bits (RFC 7049, 2.3 and appendix D): its fraction times a power of two, as doubles. No
-- digit is lost. The bits `3c00` are 1.0.
abbrev pub half_value : ℕ → Float
half_value bits =
    let size = half_size (bits / 1024 % 32) (bits % 1024) in
    if nat_lt bits 32768 then size else f.Ieee.neg size

-- The value of a float by its width and its bits (RFC 7049, 2.3). The half `3c00` and the single `3f800000` are both
-- 1.0.
abbrev pub float_value : Raw → Float
float_value (raw.Half bits) = half_value bits
float_value (raw.Single bits) = from_bits binary32 bits
float_value (raw.Double bits) = from_bits binary64 bits

-- ---- its digits

-- Digits with .0 before the exponent, unless a point precedes it: `1e+20` gives `1.0e+20`.
abbrev pub with_point : List ℕ → List ℕ
with_point [] = []
with_point (byte ∷ bytes) =
    if byte == 46 then byte ∷ bytes
    else (if byte == 101 then codes ".0" ++ byte ∷ bytes
    else byte ∷ with_point bytes)

-- The most digits of a value, as the kit's `ryu` promises them: 25, with the point, the signs and the exponent.
-- `-2.2250738585072014e-308` has 24.
abbrev pub most_digits : ℕ
most_digits = 25

-- The text of a value: digits that are read as exactly this value, laid out as the kit's `ryu` promises, with a point
-- and a sign at an exponent. Or it is a name: `NaN`, `Infinity`, `-Infinity` (RFC 8949, 8). `1.0e+20` is a text of 10
-- to the power of 20, and `1e20` is none.
abbrev pub IsNumberText : Float → List ℕ → Type 0
IsNumberText nan text = text ≡ codes "NaN"
IsNumberText (inf false) text = text ≡ codes "Infinity"
IsNumberText (inf true) text = text ≡ codes "-Infinity"
IsNumberText (fin sign number exponent) text =
    (digits : List ℕ) × (parse_float binary64 digits ≡ Some (fin sign number exponent)) × IsPlusNumber 16 4 digits
    × (length digits ≤ most_digits) × (text ≡ with_point digits)
