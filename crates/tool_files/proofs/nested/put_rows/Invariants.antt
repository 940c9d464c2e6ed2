use Rattle.std.proofs.Common.{◌≤◌, ◌<◌, ◌+◌, ◌-◌, ◌^◌, length, take}
use Rattle.tool_files.specs.Embeds.{HandsOn}
use Rattle.tool_files.proofs.nested.put_rows.Given as goal

-- The rows so far have the bytes before `at`.
abbrev pub invariant-parts : goal.invariant-parts
invariant-parts g l = record {
  within : l.at ≤ length l.bytes;
  so_far : l.offset + length l.bytes < 2 ^ 64
      → HandsOn l.level l.offset (g.S.Rows.drawn l.fn.rows) (g.S.Rows.drawn l.rows) (take l.at l.bytes);
}

abbrev pub decreases-parts : goal.decreases-parts
decreases-parts g l = length l.bytes - l.at
