use Rattle.std.proofs.Common.{arith}
use Rattle.cbor_checker.proofs.RunLaws.{array_enters, map_enters}
use Rattle.cbor_checker.proofs.walk.nests.nest_of.Goals as goal

pub returns-in-132-to-151-clause-enters : goal.returns-in-132-to-151-clause-enters
returns-in-132-to-151-clause-enters c =
    array_enters c.args.first _ (omega (arith, c.from-count.ensures)) (omega (arith, c.from-count.ensures))

pub returns-in-162-to-183-clause-enters : goal.returns-in-162-to-183-clause-enters
returns-in-162-to-183-clause-enters c =
    map_enters c.args.first _ (omega (arith, c.from-count-in-162-to-183.ensures))
    (omega (arith, c.from-count-in-162-to-183.ensures))
