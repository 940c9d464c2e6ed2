-- Floats and the 64 bits that they have.
use Rattle.std.proofs.Common.{◌≡◌, ℕ, ◌+◌, ◌*◌, ◌/◌, ◌%◌, ◌<◌, ◌^◌, refl, sym, ap, subst, arith}
use Rattle.ciborium_ll_grammar.specs.declared.hdr.Float.{Float}
use Rattle.ciborium_ll_grammar.specs.declared.hdr.Float.TheVariants as fl
use Rattle.ciborium_ll_grammar.specs.Title.{IsFloatInRange}
use Rattle.cbor_deterministic.specs.Preferred.{IsWideFloat}
use Rattle.cbor_deterministic.specs.Floats.{Parts, Format, half, single, double, parts, IsWidened, IsFloatOf, double_of}
use Rattle.cbor_deterministic.specs.Floats.{single_of, half_of}
use Rattle.cbor_deterministic.proofs.FloatTests.{same_parts}
use Rattle.cbor_deterministic.proofs.FloatOne.{widened16, widened32, one_half, one_single, half_once}
use Rattle.cbor_deterministic.proofs.FloatOne.{single_once, same_half, same_single, same_double}

-- ---- each float has bits

pub record Bits32 (b : Parts) : Type 0 where
  pub n : ℕ
  pub range : n < 2 ^ 32
  pub is : parts single n ≡ b

pub bits32 : (b : Parts) → b.sign < 2 → b.exponent < 256 → b.mantissa < 2 ^ 23 → Bits32 b
bits32 b s e m =
    let n : ℕ = b.sign * 2147483648 + (b.exponent * 8388608 + b.mantissa) in
    let x : n / 2147483648 ≡ b.sign = omega arith in
    let y : n / 8388608 % 256 ≡ b.exponent = omega arith in
    let z : n % 8388608 ≡ b.mantissa = omega arith in
    record {
      n = n;
      range = omega arith;
      is = same_parts (n / 2147483648) b.sign (n / 8388608 % 256) b.exponent (n % 8388608) b.mantissa x y z;
    }

record Bits64 (b : Parts) : Type 0 where
  pub n : ℕ
  pub range : n < 2 ^ 64
  pub is : parts double n ≡ b

bits64 : (b : Parts) → b.sign < 2 → b.exponent < 2048 → b.mantissa < 2 ^ 52 → Bits64 b
bits64 b s e m =
    let n : ℕ = b.sign * 9223372036854775808 + (b.exponent * 4503599627370496 + b.mantissa) in
    let x : n / 9223372036854775808 ≡ b.sign = omega arith in
    let y : n / 4503599627370496 % 2048 ≡ b.exponent = omega arith in
    let z : n % 4503599627370496 ≡ b.mantissa = omega arith in
    record {
      n = n;
      range = omega arith;
      is = same_parts (n / 9223372036854775808) b.sign (n / 4503599627370496 % 2048) b.exponent
          (n % 4503599627370496) b.mantissa x y z;
    }

pub record HasBits (x : Float) : Type 0 where
  pub bits : ℕ
  pub is : IsFloatOf x bits

-- The parts of the wider float may be replaced by equal parts.
pub to_parts : (narrow wide : Format) (a b c : Parts) → c ≡ b → IsWidened narrow wide a b → IsWidened narrow wide a c
to_parts narrow wide a b c e w = subst (λ (z : Parts). IsWidened narrow wide a z) (sym e) w

pub from_parts : (narrow wide : Format) (a b c : Parts) → c ≡ a → IsWidened narrow wide a b → IsWidened narrow wide c b
from_parts narrow wide a b c e w = subst (λ (z : Parts). IsWidened narrow wide z b) (sym e) w

record Between (n : ℕ) : Type 0 where
  pub bits : ℕ
  pub range : bits < 2 ^ 32
  pub is : IsWidened half single (parts half n) (parts single bits)

between : (n : ℕ) → n < 2 ^ 16 → Between n
between n l =
    let w = widened16 (n / 32768) (n / 1024 % 32) (n % 1024) (omega arith) (omega arith) in
    let s = w.sign in
    let b = bits32 w.b (omega arith) w.exponent w.mantissa in
    record {
      bits = b.n;
      range = b.range;
      is = to_parts half single (parts half n) w.b (parts single b.n) b.is w.is;
    }

pub single_bits : (n : ℕ) → n < 2 ^ 32 → HasBits (fl.Single n)
single_bits n l =
    let w = widened32 (n / 2147483648) (n / 8388608 % 256) (n % 8388608) (omega arith) (omega arith) in
    let s = w.sign in
    let b = bits64 w.b (omega arith) w.exponent w.mantissa in
    record {
      bits = b.n;
      is = single_of {bits = b.n} b.range (to_parts single double (parts single n) w.b (parts double b.n) b.is w.is);
    }

half_go : (n s : ℕ) → s < 2 ^ 32 → IsWidened half single (parts half n) (parts single s) → (x : Float) → x ≡ fl.Single s
    → (bits : ℕ) → IsFloatOf x bits → IsFloatOf (fl.Half n) bits
half_go n s l w x e bits (double_of r) = absurd cc
half_go n s l w x e bits (single_of {n = m} r v) =
    let f : m ≡ s = cc in
    half_of s l w r (subst (λ (z : ℕ). IsWidened single double (parts single z) (parts double bits)) f v)
half_go n s l w x e bits (half_of b r v q u) = absurd cc

pub half_bits : (n : ℕ) → n < 2 ^ 16 → HasBits (fl.Half n)
half_bits n l =
    let b = between n l in
    let d = single_bits b.bits b.range in
    record { bits = d.bits; is = half_go n b.bits b.range b.is (fl.Single b.bits) refl d.bits d.is }

-- ---- floats with the same value

pub float_once : (x : Float) (d d' : ℕ) → IsFloatOf x d → IsFloatOf x d' → d ≡ d'
float_once x d d' (double_of r) (double_of r') = refl
float_once x d d' (single_of {n = n} r w) (single_of r' w') =
    same_double d d' (single_once (parts single n) (parts double d) (parts double d') w w')
float_once x d d' (half_of {n = n} s l v r w) (half_of s' l' v' r' w') =
    let e = same_single s s' (half_once (parts half n) (parts single s) (parts single s') v v') in
    same_double d d' (single_once (parts single s') (parts double d) (parts double d')
    (subst (λ (z : ℕ). IsWidened single double (parts single z) (parts double d)) e w) w')

-- Two floats with the same 64 bits are the same, if no smaller width holds either.
pub same_narrow : (x x' : Float) (d : ℕ) → (IsWideFloat x → ⊥) → (IsWideFloat x' → ⊥) → IsFloatOf x d → IsFloatOf x' d
    → x ≡ x'
same_narrow x x' d p p' (double_of r) (double_of r') = refl
same_narrow x x' d p p' (double_of r) (single_of {n = n} r' w) =
    absurd (p (record { a = parts single n; widened = w }))
same_narrow x x' d p p' (double_of r) (half_of s l v r' w) =
    absurd (p (record { a = parts single s; widened = w }))
same_narrow x x' d p p' (single_of {n = n} r' w) (double_of r) =
    absurd (p' (record { a = parts single n; widened = w }))
same_narrow x x' d p p' (half_of s l v r' w) (double_of r) =
    absurd (p' (record { a = parts single s; widened = w }))
same_narrow x x' d p p' (single_of {n = n} r w) (single_of {n = n'} r' w') =
    ap fl.Single (same_single n n' (one_single (parts single n) (parts single n') (parts double d) w w'))
same_narrow x x' d p p' (single_of {n = n} r w) (half_of {n = n'} s l v r' w') =
    let e = one_single (parts single n) (parts single s) (parts double d) w w' in
    absurd (p (record {
      a = parts half n';
      widened = subst (λ (z : Parts). IsWidened half single (parts half n') z) (sym e) v;
    }))
same_narrow x x' d p p' (half_of {n = n'} s l v r' w') (single_of {n = n} r w) =
    let e = one_single (parts single n) (parts single s) (parts double d) w w' in
    absurd (p' (record {
      a = parts half n';
      widened = subst (λ (z : Parts). IsWidened half single (parts half n') z) (sym e) v;
    }))
same_narrow x x' d p p' (half_of {n = n} s l v r w) (half_of {n = n'} s' l' v' r' w') =
    let e = one_single (parts single s) (parts single s') (parts double d) w w' in
    ap fl.Half (same_half n n' (one_half (parts half n) (parts half n') (parts single s')
    (subst (λ (z : Parts). IsWidened half single (parts half n) z) e v) v'))

-- Each float has 64 bits.
pub float_bits : (x : Float) → IsFloatInRange x → HasBits x
float_bits (fl.Half n) r = half_bits n r
float_bits (fl.Single n) r = single_bits n r
float_bits (fl.Double n) r = record { bits = n; is = double_of r }
