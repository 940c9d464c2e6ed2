use Rattle.std.proofs.Common.{◌≤◌, ◌-◌, take, length}
use Rattle.cbor_checker.specs.Walking.{AreLent, spot_at}
use Rattle.cbor_checker.specs.Steps.{Leads}
use Rattle.cbor_checker.proofs.walk.Walk.run_all.Given as goal

abbrev pub invariant-runs : goal.invariant-runs
invariant-runs l =
    record {
      within : l.at ≤ length l.bytes;
      leads : Leads (spot_at l.fn.self) (take l.at l.bytes) (spot_at l.self);
      lent : AreLent l.fn.self.levels l.self.levels;
    }

abbrev pub decreases-runs : goal.decreases-runs
decreases-runs l = length l.bytes - l.at
