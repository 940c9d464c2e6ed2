use Rattle.std.proofs.Common.{◌≡◌, ◌≤◌, ◌-◌, take, length}
use Rattle.cbor_checker.specs.declared.phase.Phase.TheVariants as p
use Rattle.cbor_parser.specs.declared.strings.Within.TheVariants as w
use Rattle.cbor_checker.specs.Walking.{AreLent, spot_at}
use Rattle.cbor_checker.specs.Steps.{Leads}
use Rattle.cbor_checker.proofs.walk.Walk.item_run.Given as goal

abbrev pub invariant-items : goal.invariant-items
invariant-items l =
    record {
      within : l.at ≤ length l.bytes;
      leads : Leads (spot_at l.fn.self) (take l.at l.bytes) (spot_at l.self);
      lent : AreLent l.fn.self.levels l.self.levels;
      phase : l.self.phase ≡ p.Title;
      due : l.self.within ≡ w.Nothing;
      fresh : length l.self.front ≡ 0;
    }

abbrev pub decreases-items : goal.decreases-items
decreases-items l = length l.bytes - l.at
