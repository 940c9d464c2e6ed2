use Rattle.tool_requests.proofs.LineLaws.{none_held}
use Rattle.tool_requests.proofs.input.Lines.read_line.Goals as goal

pub returns-clause-none : goal.returns-clause-none
returns-clause-none g c nothing =
    none_held c.loop.line.items c.loop.line.len c.is_empty.result c.loop.line.ok.0 c.is_empty.ensures (cc nothing)
