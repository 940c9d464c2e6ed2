use Rattle.std.proofs.Common.{◌≤◌, ◌-◌, length}
use Rattle.ciborium_ll_text.specs.Windows.{MayFollow}
use Rattle.ciborium_ll_text.proofs.blocks.all_follow.Given as goal

abbrev pub invariant-sixteens : goal.invariant-sixteens
invariant-sixteens l = (3 ≤ l.at) × (l.at ≤ length l.bytes) × MayFollow l.bytes 3 l.at

abbrev pub decreases-sixteens : goal.decreases-sixteens
decreases-sixteens l = length l.bytes - l.at
