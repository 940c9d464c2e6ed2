use Rattle.std.proofs.Common.{rules}
use Rattle.tool_verdicts.proofs.check.prefer_failure.Goals as goal

pub returns-in-Some-Failed : goal.returns-in-Some-Failed
returns-in-Some-Failed c = search rules
