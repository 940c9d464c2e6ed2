use Rattle.std.proofs.Common.{◌+◌, List, ℕ, ap, ◌∙◌}
use Rattle.ciborium_ll_text.proofs.Lists.{length_zero}
use Rattle.cbor_checker.specs.Spots.{Spot, item_done}
use Rattle.cbor_checker.specs.Walking.{spot_at}
use Rattle.cbor_checker.proofs.walk.Walk.body_taken.Goals as goal

pub returns-clause-taken : goal.returns-clause-taken
returns-clause-taken c =
    let s : Spot = spot_at c.args.self.now in
    c.item_over.ensures.done ∙ ap (λ (z : List ℕ).
    item_done (record s { front = z; offset = s.offset + c.args.len })) (length_zero s.front c.requires.fresh)
