use Rattle.std.proofs.Common.{◌+◌, ◌-◌, List, ℕ, ap, ◌∙◌}
use Rattle.ciborium_ll_text.specs.States.{may_end}
use Rattle.cbor_checker.specs.Spots.{Spot}
use Rattle.cbor_checker.specs.Steps.{text_left}
use Rattle.cbor_checker.specs.Walking.{spot_at}
use Rattle.cbor_checker.proofs.walk.Walk.text_taken.Goals as goal

pub returns-clause-spot : goal.returns-clause-spot
returns-clause-spot c =
    let s : Spot = spot_at c.args.self.now in
    let left : ℕ = c.args.left - c.args.len in
    c.text_left.ensures.spot ∙ ap (λ (z : List ℕ).
    text_left (may_end c.args.state left) left c.args.state (record s { front = z; offset = s.offset + c.args.len }))
    c.clear.ensures
