use Rattle.ciborium_ll_grammar.proofs.LeastLaws.{least_says}
use Rattle.ciborium_ll_grammar.proofs.titles.least_of.Goals as goal

pub returns : goal.returns
returns c = least_says c.args.first c.ranges.first.fits
