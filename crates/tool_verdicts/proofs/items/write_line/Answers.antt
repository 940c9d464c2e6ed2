use Rattle.std.proofs.Common.{refl}
use Rattle.tool_verdicts.specs.Lines.{at_end}
use Rattle.tool_verdicts.proofs.items.write_line.Goals as goal

pub returns-in-Err-end_line-clause-writes : goal.returns-in-Err-end_line-clause-writes
returns-in-Err-end_line-clause-writes g c =
    at_end _ _ c.in_default.ensures.written c.in-Err-end_line.ensures refl
