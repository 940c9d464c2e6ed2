use Rattle.std.proofs.Common.{◌≡◌, ◌≤◌, length, take}
use Rattle.ciborium_ll_text.specs.States.{after, IsLastEnd}
use Rattle.ciborium_ll_text.specs.declared.state.State.TheVariants as s
use Rattle.ciborium_ll_text.proofs.state.State.last_end.Given as goal

abbrev pub invariant-loop-at : goal.invariant-loop-at
invariant-loop-at l = (l.at ≤ length l.bytes) × (l.state ≡ after s.Between (take l.at l.bytes))
    × IsLastEnd (take l.at l.bytes) l.end
