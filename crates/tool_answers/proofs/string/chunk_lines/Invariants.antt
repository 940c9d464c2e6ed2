use Rattle.std.proofs.Common.{◌≡◌, ◌+◌, ◌*◌, cond}
use Rattle.ciborium_ll_decoder.specs.Chunks.{left_of}
use Rattle.tool_answers.proofs.string.chunk_lines.Given as goal

abbrev pub invariant-chunks : goal.invariant-chunks
invariant-chunks g l = l.segment.decoder.ghost_name ≡ l.initial.segment.decoder.ghost_name

-- A chunk takes bytes, or is the first empty chunk in a row.
abbrev pub decreases-chunks : goal.decreases-chunks
decreases-chunks g l = 2 * left_of l.segment + cond l.was_empty 0 1
