use Rattle.tool_verdicts.proofs.verdict.VerdictDisplay.fmt.Goals as goal

pub returns-in-Well-clause-writes : goal.returns-in-Well-clause-writes
returns-in-Well-clause-writes g c = rw c.in-Well.is c.write.ensures.writes
