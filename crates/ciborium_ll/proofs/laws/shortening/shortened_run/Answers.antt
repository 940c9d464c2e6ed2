use Rattle.ciborium_ll_recode.proofs.ShortensLaws.{shortened_is, shortened_one, shortened_no_longer, shortened_again}
use Rattle.ciborium_ll_recode.proofs.ShortensLaws.{shortened_same}
use Rattle.ciborium_ll.proofs.laws.shortening.shortened_run.Goals as goal

pub returns-clause-same : goal.returns-clause-same
returns-clause-same c = shortened_is

pub returns-clause-one : goal.returns-clause-one
returns-clause-one c = shortened_one

pub returns-clause-no_longer : goal.returns-clause-no_longer
returns-clause-no_longer c = shortened_no_longer

pub returns-clause-again : goal.returns-clause-again
returns-clause-again c = shortened_again

pub returns-clause-strictly : goal.returns-clause-strictly
returns-clause-strictly c = shortened_same
