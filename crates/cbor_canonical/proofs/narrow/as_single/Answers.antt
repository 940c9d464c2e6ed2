use Rattle.std.proofs.Common.{arith, ◌≡◌, ℕ, ◌+◌, ◌-◌, ◌*◌, ◌/◌, ◌%◌, ◌^◌, ◌≤◌, ◌<◌, inl, true, nat_lt, Bool, false}
use Rattle.std.proofs.Common.{refl}
use Rattle.std.proofs.lemmas.Bool.Decides.{nat_tests}
use Rattle.cbor_deterministic.proofs.FloatTests.{shifted, test_is}
use Rattle.cbor_deterministic.proofs.FloatLaws64.{Narrower, subnormal_test, no_test}
use Rattle.cbor_canonical.proofs.Narrowing.{Narrowed, summed32}
use Rattle.cbor_deterministic.specs.Floats.{single, double, parts, IsWidened}
use Rattle.cbor_canonical.proofs.narrow.as_single.Goals as goal

reaches : (s x m : ℕ) → 0 < x → Narrower s x m → 874 ≤ x
reaches s x m l n = go (nat_lt x 874) refl
  where
    go : (b : Bool) → nat_lt x 874 ≡ b → 874 ≤ x
    go true e = let k : x < 874 = grind (arith, nat_tests) in absurd (no_test s x m l (inl k) n)
    go false e = grind (arith, nat_tests)

found : (s x m : ℕ) → s < 2 → m < 4503599627370496 → 0 < x → x < 897 → Narrower s x m
    → Narrowed 4294967296 (s * 2147483648 + 1 * 2 ^ (x - 874) % 2 ^ 64 + m / (1 * 2 ^ (926 - x) % 2 ^ 64))
    (λ a. IsWidened single double a (record { sign = s; exponent = x; mantissa = m })) (parts single)
found s x m b u k h n =
    let l = reaches s x m k n in
    summed32 s x m b u l h (test_is (m % 2 ^ (926 - x)) ((subnormal_test s x m u l h).1 n))
    (1 * 2 ^ (x - 874) % 2 ^ 64) (1 * 2 ^ (926 - x) % 2 ^ 64) (shifted (x - 874) 64 (omega arith))
    (shifted (926 - x) 64 (omega arith))

pub overflow_cast-result-2 : goal.overflow_cast-result-2
overflow_cast-result-2 c =
    let f = (found (c.args.bits / 9223372036854775808) (c.args.bits / 4503599627370496 % 2048)
    (c.args.bits % 4503599627370496)
    (omega arith) (omega arith) (omega arith) (omega arith) (c.if-not-is_single.ensures.0 refl)).fits in
    omega (arith, f)

pub returns : goal.returns
returns c =
    (found (c.args.bits / 9223372036854775808) (c.args.bits / 4503599627370496 % 2048)
    (c.args.bits % 4503599627370496)
    (omega arith) (omega arith) (omega arith) (omega arith) (c.if-not-is_single.ensures.0 refl)).is
