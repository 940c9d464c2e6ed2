use Rattle.std.proofs.Common.{arith, ◌-◌, ◌/◌, ◌%◌, inl, inr}
use Rattle.cbor_deterministic.proofs.FloatTests.{shifted}
use Rattle.cbor_deterministic.proofs.FloatLaws.{zero_test, normal_test, subnormal_test}
use Rattle.cbor_deterministic.proofs.floats.is_half.Goals as goal

pub returns-then-exponent-eq0 : goal.returns-then-exponent-eq0
returns-then-exponent-eq0 c =
    zero_test (c.args.bits / 2147483648) (c.args.bits / 8388608 % 256) (c.args.bits % 8388608) c.if-exponent-eq0.true

pub returns-then-exponent-eq255 : goal.returns-then-exponent-eq255
returns-then-exponent-eq255 c =
    normal_test (c.args.bits / 2147483648) (c.args.bits / 8388608 % 256) (c.args.bits % 8388608) (omega arith)
    (inr c.if-exponent-eq255.true)

pub returns-then-exponent-gt112 : goal.returns-then-exponent-gt112
returns-then-exponent-gt112 c =
    normal_test (c.args.bits / 2147483648) (c.args.bits / 8388608 % 256) (c.args.bits % 8388608) (omega arith)
    (inl (omega arith, omega arith))

pub returns : goal.returns
returns c =
    let e = shifted (126 - c.args.bits / 8388608 % 256) 32 (omega arith) in
    rw e (subnormal_test (c.args.bits / 2147483648) (c.args.bits / 8388608 % 256) (c.args.bits % 8388608) (omega arith)
    (omega arith) (omega arith))
