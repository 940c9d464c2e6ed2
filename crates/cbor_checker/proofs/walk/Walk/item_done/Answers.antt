use Rattle.std.proofs.Common.{◌∙◌}
use Rattle.cbor_checker.specs.Walking.{levels_at, spot_at}
use Rattle.cbor_checker.specs.declared.phase.Phase.TheVariants as p
use Rattle.cbor_parser.specs.declared.strings.Within.TheVariants as w
use Rattle.cbor_checker.proofs.SettledLaws.{settled_anyhow}
use Rattle.cbor_checker.proofs.walk.Walk.item_done.Goals as goal

pub returns-clause-spot : goal.returns-clause-spot
returns-clause-spot c =
    let checker = c.args.self.now in
    c.item_over.ensures.done
    ∙ settled_anyhow (levels_at checker.levels) checker.depth (spot_at checker) p.Title w.Nothing
