use Rattle.std.proofs.Common.{rules}
use Rattle.cbor_checker.specs.Snapshots.{IsState}
use Rattle.cbor_checker.proofs.position.Position.restore.Goals as goal

pub invariant_of-result : goal.invariant_of-result
invariant_of-result c =
    let state : IsState c.args.snapshot.now c.in_ok-phase.phase c.in_ok-within.within =
    c.is_bounded.ensures.yes (search rules) c.in_ok-phase.phase c.in_ok-within.within (search rules) (search rules) in
    search (rules, state)
