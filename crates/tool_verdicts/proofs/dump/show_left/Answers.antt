use Rattle.std.proofs.Common.{rules}
use Rattle.tool_verdicts.proofs.dump.show_left.Goals as goal

pub returns-in-Err : goal.returns-in-Err
returns-in-Err g c = search rules

pub returns-in_default-dump_left-clause-keeps : goal.returns-in_default-dump_left-clause-keeps
returns-in_default-dump_left-clause-keeps g c = search rules

pub returns : goal.returns
returns g c = search rules
