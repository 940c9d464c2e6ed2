use Rattle.std.proofs.Common.{rules}
use Rattle.cbor_checker.specs.Walking.{spot_at}
use Rattle.cbor_checker.proofs.SettledLaws.{broken_done}
use Rattle.cbor_checker.proofs.walk.Walk.broken.Goals as goal

pub returns-in-Some-clause-broken : goal.returns-in-Some-clause-broken
returns-in-Some-clause-broken c =
    broken_done (spot_at c.args.self.now) _ c.in-Some.level (search rules) (search rules) (search rules)
