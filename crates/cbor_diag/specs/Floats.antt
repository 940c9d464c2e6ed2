-- The diagnostic notation of floats (RFC 8949, section 8): the texts of their values, and the mark of their width.
use Rattle.std.specs.Prelude.{◌≡◌, ℕ, ◌+◌, ◌-◌, ◌/◌, ◌%◌, ◌^◌, ◌==◌, nat_lt, Bool, true, false, ◌&&◌, not}
use Rattle.std.specs.Prelude.{List, [], ◌++◌, codes, from_bits, to_bits, if◌then◌else◌}
use Rattle.std.specs.Int.{to_be_bytes, w16, w32, w64}
use Rattle.std.specs.Float.{binary32, binary64}
use Rattle.cbor_floats.specs.Floats.{IsNumberText, float_value}
use Rattle.ciborium_ll.specs.Types.Float.{Float as Raw}
use Rattle.ciborium_ll.specs.Types.Float.TheVariants as raw
use Rattle.cbor_diag.specs.declared.scalars.Width.{Width}
use Rattle.cbor_diag.specs.Notation.{bytes_notation}

-- ---- the mark of its width

-- Whether a float of the width has the value of the double with this exponent and fraction. Each width has zeros,
-- infinities and NaN, and none has a subnormal double. For other values the exponent is neither too great nor too
-- small. The bits of the fraction that the width lacks are then zeros: one more for each step below its least exponent.
-- A half has the value of the exponent 1023 and the fraction 0, which is 1.0, and not that of 1023 and 1.
abbrev pub is_held : Width → ℕ → ℕ → Bool
is_held width exponent fraction =
    if exponent == 2047 then true
    else (if exponent == 0 then fraction == 0
    else (not (nat_lt width.most exponent) && (not (nat_lt (exponent + width.digits) width.least)
    && (fraction % 2 ^ ((52 - width.digits) + (width.least - exponent)) == 0))))

-- Whether a float of the width has the value of this double. A half has the value 1.0, `3f f0 00 00 00 00 00 00`, and
-- not 65536.0, `40 f0 00 00 00 00 00 00`.
abbrev pub holds : Width → ℕ → Bool
holds width double = is_held width (double / 2 ^ 52 % 2048) (double % 2 ^ 52)

-- Halves: ten bits of fraction, and exponents from -14 to 15, as a double has them.
abbrev pub half_width : Width
half_width = record { digits = 10; least = 1009; most = 1038 }

-- Singles: 23 bits of fraction, and exponents from -126 to 127.
abbrev pub single_width : Width
single_width = record { digits = 23; least = 897; most = 1150 }

-- The mark of a width if a shorter width has the same value (RFC 8949, 8.1). It is `_2` for a single whose value a half
-- has, and `_3` for a double whose value a single has. A half has no mark. `fa 3f 80 00 00`, which is 1.0, has `_2`.
abbrev pub float_mark : Raw → List ℕ
float_mark (raw.Half bits) = []
float_mark (raw.Single bits) = if holds half_width (to_bits binary64 (from_bits binary32 bits)) then codes "_2" else []
float_mark (raw.Double bits) = if holds single_width bits then codes "_3" else []

-- The text of a float: the text of its value, and the mark (RFC 8949, 8). `1.0_3` is a double, and `f9 7c 00` gives
-- `Infinity`.
abbrev pub IsFloatText : Raw → List ℕ → Type 0
IsFloatText float text =
    (number : List ℕ) × IsNumberText (float_value float) number × (text ≡ number ++ float_mark float)

-- ---- exact notation

-- The float is a NaN that its name does not give back: it has a sign, or other bits than the quiet NaN of its width,
-- whose first bit of the fraction alone is one (IEEE 754, 6.2.1). `f9 7e 01` is one, and `f9 7e 00` is none.
abbrev pub has_payload : Raw → Bool
has_payload (raw.Half bits) = nat_lt 0x7c00 (bits % 0x8000) && not (bits == 0x7e00)
has_payload (raw.Single bits) = nat_lt 0x7f800000 (bits % 0x80000000) && not (bits == 0x7fc00000)
has_payload (raw.Double bits) =
    nat_lt 0x7ff0000000000000 (bits % 0x8000000000000000) && not (bits == 0x7ff8000000000000)

-- The bytes of a float's bits in base 16, as CBOR's extended diagnostic notation has them. `7e 01` gives `float'7e01'`.
abbrev pub digits_text : List ℕ → List ℕ
digits_text bytes = codes "float'" ++ (bytes_notation bytes ++ codes "'")

-- The bits of a float in base 16, the most significant byte first. `f9 7e 01` gives `float'7e01'`.
abbrev pub bits_text : Raw → List ℕ
bits_text (raw.Half bits) = digits_text (to_be_bytes w16 bits)
bits_text (raw.Single bits) = digits_text (to_be_bytes w32 bits)
bits_text (raw.Double bits) = digits_text (to_be_bytes w64 bits)

-- The text of a float, by its bits if `by_bits` is true, and otherwise by its value. By its value `f9 3c 00` is `1.0`.
abbrev pub IsTextBy : Bool → Raw → List ℕ → Type 0
IsTextBy true float text = text ≡ bits_text float
IsTextBy false float text = IsFloatText float text

-- The text of a float in plain or in exact notation. `fa 7f c0 00 01` is `NaN_2` in plain notation, and in exact
-- notation `float'7fc00001'`.
abbrev pub IsShownFloat : Bool → Raw → List ℕ → Type 0
IsShownFloat exact float text = IsTextBy (exact && has_payload float) float text
