use Rattle.std.proofs.Common.{◌≡◌}
use Rattle.tool_answers.proofs.string.segment_lines.Given as goal

abbrev pub invariant-segments : goal.invariant-segments
invariant-segments g l = l.segments.decoder.ghost_name ≡ l.initial.segments.decoder.ghost_name
