use Rattle.std.proofs.Common.{rules}
use Rattle.tool_verdicts.proofs.items.ending_at.Goals as goal

pub returns-in-Read-Read-Io : goal.returns-in-Read-Read-Io
returns-in-Read-Read-Io g c = search rules
