use Rattle.std.proofs.Common.{List, ℕ, ap}
use Rattle.cbor_checker.specs.Checking.{HasRead}
use Rattle.cbor_checker.specs.Spots.{Spot}
use Rattle.cbor_checker.specs.Steps.{start}
use Rattle.cbor_checker.proofs.TellLaws.{fed_fresh}
use Rattle.cbor_checker.proofs.checker.Checker.with_spelling.Goals as goal

pub returns : goal.returns
unfolding HasRead
returns c =
    let fresh : Spot = start c.args.spelling c.args.depth in
    fed_fresh c.args.spelling c.args.depth _ (ap (λ (z : List ℕ). record fresh { front = z }) c.new.ensures)
