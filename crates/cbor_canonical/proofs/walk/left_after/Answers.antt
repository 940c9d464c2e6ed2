use Rattle.std.proofs.Common.{arith}
use Rattle.cbor_deterministic.specs.declared.TheConstants.{MAX_DEPTH}
use Rattle.cbor_canonical.proofs.WalkRuns.{one_short, two_short, pair_less}
use Rattle.cbor_canonical.proofs.walk.left_after.Goals as goal

pub pairs-init : goal.pairs-init
pairs-init c = λ front rest shallow are whole. record { front = front; is = are; whole = whole }

pub returns-in_default : goal.returns-in_default
returns-in_default c = λ front rest shallow are whole.
    absurd (one_short c.args.depth c.min-levels.result MAX_DEPTH c.pairs.due c.pairs.rest.now rest
    c.min-levels.ensures shallow (omega (arith, c.pairs-test.true)) (c.pairs.invariant front rest shallow are whole)
    c.in_default.ensures)

pub returns-in_default-after_item : goal.returns-in_default-after_item
returns-in_default-after_item c = λ front rest shallow are whole.
    absurd (two_short c.args.depth c.min-levels.result MAX_DEPTH c.pairs.due c.pairs.rest.now c.in-Some.value.now rest
    c.min-levels.ensures shallow (omega (arith, c.pairs-test.true)) (c.pairs.invariant front rest shallow are whole)
    c.in-Some.ensures c.in_default-after_item.ensures)

pub pairs-preserved : goal.pairs-preserved
pairs-preserved c = λ front rest shallow are whole.
    pair_less c.args.depth c.min-levels.result MAX_DEPTH c.pairs.due c.pairs.rest.now c.in-Some.value.now
    c.in-Some-after_item.next.now rest c.min-levels.ensures shallow (omega (arith, c.pairs-test.true))
    (c.pairs.invariant front rest shallow are whole) c.in-Some.ensures c.in-Some-after_item.ensures
