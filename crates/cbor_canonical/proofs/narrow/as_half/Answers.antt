use Rattle.std.proofs.Common.{arith, ◌≡◌, ℕ, ◌+◌, ◌-◌, ◌*◌, ◌/◌, ◌%◌, ◌^◌, ◌≤◌, ◌<◌, inl, true, nat_lt, Bool, false}
use Rattle.std.proofs.Common.{refl}
use Rattle.std.proofs.lemmas.Bool.Decides.{nat_tests}
use Rattle.cbor_deterministic.proofs.FloatTests.{shifted, test_is}
use Rattle.cbor_deterministic.proofs.FloatLaws.{Narrower, subnormal_test, no_test}
use Rattle.cbor_canonical.proofs.Narrowing.{Narrowed, summed16}
use Rattle.cbor_deterministic.specs.Floats.{half, single, parts, IsWidened}
use Rattle.cbor_canonical.proofs.narrow.as_half.Goals as goal

reaches : (s x m : ℕ) → 0 < x → Narrower s x m → 103 ≤ x
reaches s x m l n = go (nat_lt x 103) refl
  where
    go : (b : Bool) → nat_lt x 103 ≡ b → 103 ≤ x
    go true e = let k : x < 103 = grind (arith, nat_tests) in absurd (no_test s x m l (inl k) n)
    go false e = grind (arith, nat_tests)

found : (s x m : ℕ) → s < 2 → m < 8388608 → 0 < x → x < 113 → Narrower s x m
    → Narrowed 65536 (s * 32768 + 1 * 2 ^ (x - 103) % 2 ^ 32 + m / (1 * 2 ^ (126 - x) % 2 ^ 32))
    (λ a. IsWidened half single a (record { sign = s; exponent = x; mantissa = m })) (parts half)
found s x m b u k h n =
    let l = reaches s x m k n in
    summed16 s x m b u l h (test_is (m % 2 ^ (126 - x)) ((subnormal_test s x m u l h).1 n))
    (1 * 2 ^ (x - 103) % 2 ^ 32) (1 * 2 ^ (126 - x) % 2 ^ 32) (shifted (x - 103) 32 (omega arith))
    (shifted (126 - x) 32 (omega arith))

pub overflow_cast-result-2 : goal.overflow_cast-result-2
overflow_cast-result-2 c =
    let f = (found (c.args.bits / 2147483648) (c.args.bits / 8388608 % 256) (c.args.bits % 8388608)
    (omega arith) (omega arith) (omega arith) (omega arith) (c.if-not-is_half.ensures.0 refl)).fits in
    omega (arith, f)

pub returns : goal.returns
returns c =
    (found (c.args.bits / 2147483648) (c.args.bits / 8388608 % 256) (c.args.bits % 8388608)
    (omega arith) (omega arith) (omega arith) (omega arith) (c.if-not-is_half.ensures.0 refl)).is
