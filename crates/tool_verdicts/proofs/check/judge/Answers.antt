use Rattle.std.proofs.Common.{rules}
use Rattle.tool_verdicts.proofs.check.judge.Goals as goal

pub returns-then-one-clause-says : goal.returns-then-one-clause-says
returns-then-one-clause-says g c = search rules

pub returns-then-one-clause-exactly : goal.returns-then-one-clause-exactly
returns-then-one-clause-exactly g c = search rules

pub returns-then-one-clause-told : goal.returns-then-one-clause-told
returns-then-one-clause-told g c = search rules
