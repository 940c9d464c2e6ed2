use Rattle.std.proofs.Common.{rules}
use Rattle.tool_verdicts.proofs.dump.dump_verdict.Goals as goal

pub returns : goal.returns
returns g c = search rules
