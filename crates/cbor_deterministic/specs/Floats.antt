-- Floats of 16, 32 and 64 bits (IEEE 754, 3.4), and when floats of two widths are the same. Zeros and infinities are
-- the same by their sign, NaNs by their sign and payload, and all others by their value.
use Rattle.std.specs.Prelude.{ℕ, ◌+◌, ◌-◌, ◌*◌, ◌/◌, ◌%◌, ◌<◌, ◌^◌}
use Rattle.ciborium_ll_grammar.specs.declared.hdr.Float.{Float}
use Rattle.ciborium_ll_grammar.specs.declared.hdr.Float.TheVariants as f

-- The three parts of a float (IEEE 754, 3.4). -2.0 in 16 bits, `c0 00`, has the sign 1, the exponent 16 and the
-- mantissa 0.
pub record Parts : Type 0 where
  pub sign : ℕ
  pub exponent : ℕ
  pub mantissa : ℕ

-- How many bits the exponent and the mantissa have (IEEE 754, 3.6): 5 and 10 in 16 bits.
pub record Format : Type 0 where
  pub exponent : ℕ
  pub mantissa : ℕ

-- Floats of 16 bits: a sign, 5 bits of exponent and 10 of mantissa (IEEE 754, 3.6). `3c 00` is 1.0.
abbrev pub half : Format
half = record { exponent = 5; mantissa = 10 }

-- Floats of 32 bits: a sign, 8 bits of exponent and 23 of mantissa (IEEE 754, 3.6). `3f 80 00 00` is 1.0.
abbrev pub single : Format
single = record { exponent = 8; mantissa = 23 }

-- Floats of 64 bits: a sign, 11 bits of exponent and 52 of mantissa (IEEE 754, 3.6). `3f f0 00 00 00 00 00 00` is 1.0.
abbrev pub double : Format
double = record { exponent = 11; mantissa = 52 }

-- The parts of some bits: the sign, the exponent and the mantissa, from the most significant bit on (IEEE 754, 3.4).
-- The 16 bits `3c 00`, which are 1.0, have the parts 0, 15 and 0.
abbrev pub parts : Format → ℕ → Parts
parts format bits = record {
  sign = bits / 2 ^ (format.exponent + format.mantissa);
  exponent = bits / 2 ^ format.mantissa % 2 ^ format.exponent;
  mantissa = bits % 2 ^ format.mantissa;
}

-- The exponent that means a power of 0 (IEEE 754, 3.4). It is 15, 127 and 1023 in the three formats.
abbrev pub bias : Format → ℕ
bias format = 2 ^ (format.exponent - 1) - 1

-- `IsWidened narrow wide a b`: the float of the narrower format with the parts a is the float of the wider format with
-- the parts b (IEEE 754, 3.4). The 16 bits `3c 00` are the 32 bits `3f 80 00 00`, since both are 1.0.
pub data IsWidened (narrow wide : Format) : Parts → Parts → Type 0 where
  -- A zero of the same sign. `80 00` is `80 00 00 00`.
  zero_float : {s : ℕ} → IsWidened narrow wide (record { sign = s; exponent = 0; mantissa = 0 })
      (record { sign = s; exponent = 0; mantissa = 0 })
  -- 1.m times a power of two: the same power, and the mantissa with zeros after it. `3c 00` is `3f 80 00 00`.
  normal : {s e m : ℕ} → 0 < e → e < 2 ^ narrow.exponent - 1 → m < 2 ^ narrow.mantissa
      → IsWidened narrow wide (record { sign = s; exponent = e; mantissa = m })
      (record {
        sign = s;
        exponent = e + (bias wide - bias narrow);
        mantissa = m * 2 ^
            (wide.mantissa - narrow.mantissa);
      })
  -- An infinity, or a NaN with its payload: the greatest exponent, and the mantissa with zeros after it. `7c 00` is
  -- `7f 80 00 00`.
  special : {s m : ℕ} → m < 2 ^ narrow.mantissa
      → IsWidened narrow wide (record { sign = s; exponent = 2 ^ narrow.exponent - 1; mantissa = m })
      (record { sign = s; exponent = 2 ^ wide.exponent - 1; mantissa = m * 2 ^ (wide.mantissa - narrow.mantissa) })
  -- 0.m times the least power of two, m > 0: m has its first 1 at bit p, and r is the rest after that bit. The wider
  -- format writes this as 1.r times a smaller power. `00 01` is `33 80 00 00`.
  subnormal : {s p r : ℕ} → p < narrow.mantissa → r < 2 ^ p
      → IsWidened narrow wide (record { sign = s; exponent = 0; mantissa = 2 ^ p + r })
      (record {
        sign = s;
        exponent = p + 1 + (bias wide - bias narrow) - narrow.mantissa;
        mantissa = r * 2 ^ (wide.mantissa - p);
      })

-- Some float of the narrower format is the float with these parts. 1.0 in 32 bits, `3f 80 00 00`, has such a float, and
-- 100000.0, `47 c3 50 00`, has none.
pub record HasNarrower (narrow wide : Format) (b : Parts) : Type 0 where
  pub a : Parts
  pub widened : IsWidened narrow wide a b

-- `IsFloatOf float bits`: in 64 bits the float has these bits. The 16 bits `3c 00` are `3f f0 00 00 00 00 00 00` in 64
-- bits.
pub data IsFloatOf : Float → ℕ → Type 0 where
  double_of : {bits : ℕ} → bits < 2 ^ 64 → IsFloatOf (f.Double bits) bits
  single_of : {n bits : ℕ} → bits < 2 ^ 64 → IsWidened single double (parts single n) (parts double bits)
      → IsFloatOf (f.Single n) bits
  half_of : {n bits : ℕ} (between : ℕ) → between < 2 ^ 32 → IsWidened half single (parts half n) (parts single between)
      → bits < 2 ^ 64 → IsWidened single double (parts single between) (parts double bits)
      → IsFloatOf (f.Half n) bits
