use Rattle.std.proofs.Common.{take, subst, ap}
use Rattle.cbor_checker.specs.Walking.{spot_at}
use Rattle.cbor_checker.specs.Spots.{Spot}
use Rattle.cbor_checker.specs.Steps.{Leads}
use Rattle.cbor_checker.proofs.walk.Walk.title_run.Goals as goal

pub returns-clause-leads : goal.returns-clause-leads
returns-clause-leads c =
    let same = c.title_taken.ensures.no c.if-title_taken.false in
    subst (λ (z : Spot). Leads z (take c.title_byte-2.result c.args.bytes.now) (spot_at c.title_byte-2.new.self))
    (ap spot_at same) c.title_byte-2.ensures.leads
