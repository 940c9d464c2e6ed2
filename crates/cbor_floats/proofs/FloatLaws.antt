-- The values of some bits, and the texts of values.
use Rattle.std.proofs.Common.{◌≡◌, ℕ, ◌≤◌, true, false, Some, is_nan, List, ◌++◌, length}
use Rattle.std.proofs.Common.{from_bits, codes, arith, drop, refl, take}
use Rattle.std.specs.Float.{Float, nan, inf, fin, binary64, float_is_finite, is_sign_negative}
use Rattle.std.specs.Float as f
use Rattle.ryu.specs.Parse.{parse_float}
use Rattle.ryu.specs.Plain.{IsPlusNumber}
use Rattle.cbor_floats.specs.Floats.{with_point, IsNumberText, most_digits}

pub bits_infinity : from_bits binary64 9218868437227405312 ≡ inf false
unfolding f.Ieee.of_bits f.Ieee.of_fields
bits_infinity = refl

pub bits_nan : from_bits binary64 9221120237041090560 ≡ nan
unfolding f.Ieee.of_bits f.Ieee.of_fields
bits_nan = refl

-- ---- the text of a value

pub nan_text : (value : Float) → is_nan value ≡ true → IsNumberText value (codes "NaN")
unfolding f.Ieee.is_nan
nan_text value is = grind arith

pub finite_text : (value : Float) (digits bytes : List ℕ) → float_is_finite value ≡ true
    → parse_float binary64 digits ≡ Some value → IsPlusNumber 16 4 digits → length digits ≤ most_digits
    → bytes ≡ digits → IsNumberText value (with_point bytes)
unfolding float_is_finite
finite_text value digits bytes is parses layout short same = grind arith

pub minus_text : (value : Float) → is_nan value ≡ false → float_is_finite value ≡ false
    → is_sign_negative value ≡ true → IsNumberText value (codes "-Infinity")
unfolding f.Ieee.is_nan float_is_finite is_sign_negative
minus_text value some is sign = grind arith

pub plus_text : (value : Float) → is_nan value ≡ false → float_is_finite value ≡ false
    → is_sign_negative value ≡ false → IsNumberText value (codes "Infinity")
unfolding f.Ieee.is_nan float_is_finite is_sign_negative
plus_text value some is sign = grind arith

-- ---- the point before an exponent

-- At this place the digits are as they are spelled, and after it their text follows.
abbrev pub SpelledTo : List ℕ → ℕ → Type 0
SpelledTo digits at = with_point digits ≡ take at digits ++ with_point (drop at digits)
