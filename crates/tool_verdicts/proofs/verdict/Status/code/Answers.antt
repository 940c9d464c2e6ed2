use Rattle.std.proofs.Common.{rules}
use Rattle.tool_verdicts.proofs.verdict.Status.code.Goals as goal

pub returns-in-Malformed : goal.returns-in-Malformed
returns-in-Malformed c = search rules
