use Rattle.std.proofs.Common.{rules}
use Rattle.capi.proofs.cll_version.Goals as goal

pub returns : goal.returns
returns c = search rules
