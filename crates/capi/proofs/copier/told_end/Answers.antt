use Rattle.std.proofs.Common.{rules}
use Rattle.capi.proofs.copier.told_end.Goals as goal

pub returns-in-Room-clause-answer : goal.returns-in-Room-clause-answer
returns-in-Room-clause-answer c = search rules
