use Rattle.ciborium_ll_grammar.proofs.LeastLaws.{longer_says}
use Rattle.ciborium_ll_grammar.proofs.titles.is_longer.Goals as goal

pub returns : goal.returns
returns c = λ minor small code has.
    longer_says c.args.first c.args.number c.least_of.result minor c.ranges.first.fits c.least_of.ensures small code has
