use Rattle.std.proofs.Common.{rules}
use Rattle.tool_verdicts.proofs.items.end_line.Goals as goal

pub returns : goal.returns
returns g c = search rules
