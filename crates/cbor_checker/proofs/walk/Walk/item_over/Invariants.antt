use Rattle.std.proofs.Common.{◌≡◌}
use Rattle.cbor_checker.specs.declared.phase.Phase.TheVariants as p
use Rattle.cbor_parser.specs.declared.strings.Within.TheVariants as w
use Rattle.cbor_checker.specs.Walking.{AreLent, levels_at, spot_at}
use Rattle.cbor_checker.specs.Spots.{settled}
use Rattle.cbor_checker.proofs.walk.Walk.item_over.Given as goal

abbrev pub invariant-levels : goal.invariant-levels
invariant-levels l =
    let first = spot_at l.fn.self in
    record {
      same : settled l.self.depth (levels_at l.self.levels) first
          ≡ settled l.fn.self.depth (levels_at l.fn.self.levels) first;
      phase : l.self.phase ≡ p.Title;
      within : l.self.within ≡ w.Nothing;
      spelling : l.self.spelling ≡ l.fn.self.spelling;
      front : l.self.front ≡ l.fn.self.front;
      place : l.self.place ≡ l.fn.self.place;
      offset : l.self.offset ≡ l.fn.self.offset;
      lent : AreLent l.fn.self.levels l.self.levels;
    }

abbrev pub decreases-levels : goal.decreases-levels
decreases-levels l = l.self.levels.len
