use Rattle.std.proofs.Common.{◌+◌, ◌-◌, List, ℕ, ap, ◌∙◌}
use Rattle.cbor_checker.specs.Spots.{Spot, bytes_due}
use Rattle.cbor_checker.specs.Walking.{spot_at}
use Rattle.cbor_checker.proofs.walk.Walk.bytes_taken.Goals as goal

pub returns-clause-spot : goal.returns-clause-spot
returns-clause-spot c =
    let s : Spot = spot_at c.args.self.now in
    c.bytes_due.ensures.spot ∙ ap (λ (z : List ℕ).
    bytes_due (c.args.left - c.args.len) (record s { front = z; offset = s.offset + c.args.len })) c.clear.ensures
