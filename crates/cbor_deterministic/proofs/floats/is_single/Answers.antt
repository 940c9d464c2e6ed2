use Rattle.std.proofs.Common.{arith, ◌-◌, ◌/◌, ◌%◌, inl, inr}
use Rattle.cbor_deterministic.proofs.FloatTests.{shifted}
use Rattle.cbor_deterministic.proofs.FloatLaws64.{zero_test, normal_test, subnormal_test}
use Rattle.cbor_deterministic.proofs.floats.is_single.Goals as goal

pub returns-then-exponent-eq0 : goal.returns-then-exponent-eq0
returns-then-exponent-eq0 c =
    zero_test (c.args.bits / 9223372036854775808) (c.args.bits / 4503599627370496 % 2048)
    (c.args.bits % 4503599627370496) c.if-exponent-eq0.true

pub returns-then-exponent-eq2047 : goal.returns-then-exponent-eq2047
returns-then-exponent-eq2047 c =
    normal_test (c.args.bits / 9223372036854775808) (c.args.bits / 4503599627370496 % 2048)
    (c.args.bits % 4503599627370496) (omega arith)
    (inr c.if-exponent-eq2047.true)

pub returns-then-exponent-gt896 : goal.returns-then-exponent-gt896
returns-then-exponent-gt896 c =
    normal_test (c.args.bits / 9223372036854775808) (c.args.bits / 4503599627370496 % 2048)
    (c.args.bits % 4503599627370496) (omega arith)
    (inl (omega arith, omega arith))

pub returns : goal.returns
returns c =
    let e = shifted (926 - c.args.bits / 4503599627370496 % 2048) 64 (omega arith) in
    rw e (subnormal_test (c.args.bits / 9223372036854775808) (c.args.bits / 4503599627370496 % 2048)
    (c.args.bits % 4503599627370496) (omega arith)
    (omega arith) (omega arith))
