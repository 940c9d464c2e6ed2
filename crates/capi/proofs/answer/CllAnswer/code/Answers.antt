use Rattle.std.proofs.Common.{rules}
use Rattle.capi.proofs.answer.CllAnswer.code.Goals as goal

pub returns-in-BreakDue : goal.returns-in-BreakDue
returns-in-BreakDue c = search rules
