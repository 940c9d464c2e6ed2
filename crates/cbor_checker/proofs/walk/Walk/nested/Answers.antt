use Rattle.std.proofs.Common.{rules}
use Rattle.cbor_checker.specs.Walking.{spot_at}
use Rattle.cbor_checker.proofs.SettledLaws.{nested_ends, nested_goes}
use Rattle.cbor_checker.proofs.walk.Walk.nested.Goals as goal

pub returns-in-Some-clause-nested : goal.returns-in-Some-clause-nested
returns-in-Some-clause-nested c =
    nested_goes (spot_at c.args.self.now) _ _ c.in-Some.left c.if-self-eq0.false (search rules) (search rules)

pub returns-in-None-clause-nested : goal.returns-in-None-clause-nested
returns-in-None-clause-nested c =
    nested_ends (spot_at c.args.self.now) _ _ c.if-self-eq0.false (search rules) (search rules)
