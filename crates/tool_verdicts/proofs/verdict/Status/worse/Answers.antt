use Rattle.std.proofs.Common.{rules}
use Rattle.tool_verdicts.proofs.verdict.Status.worse.Goals as goal

pub returns-then-code-clause-worst : goal.returns-then-code-clause-worst
returns-then-code-clause-worst c = search rules

pub returns-else-code-clause-worst : goal.returns-else-code-clause-worst
returns-else-code-clause-worst c = search rules
