use Rattle.std.proofs.Common.{rules}
use Rattle.capi.proofs.cll_checker_init.Goals as goal

pub returns-clause-set_up : goal.returns-clause-set_up
returns-clause-set_up c = search rules
