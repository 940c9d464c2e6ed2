use Rattle.tool_requests.specs.Line.{IsOneLine}
use Rattle.tool_requests.proofs.input.Lines.read_line.Given as goal

abbrev pub invariant-loop : goal.invariant-loop
invariant-loop g l = IsOneLine l.line.items
