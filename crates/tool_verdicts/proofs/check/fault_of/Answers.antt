use Rattle.std.proofs.Common.{rules}
use Rattle.tool_verdicts.proofs.check.fault_of.Goals as goal

pub returns-in-Deep : goal.returns-in-Deep
returns-in-Deep g c = search rules
