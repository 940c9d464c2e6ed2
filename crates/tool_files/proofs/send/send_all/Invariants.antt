use Rattle.std.proofs.Common.{length, ◌≤◌, take}
use Rattle.std.specs.Io.KnownBytes.{Appends}
use Rattle.tool_files.proofs.send.send_all.Given as goal

abbrev pub invariant-calls : goal.invariant-calls
invariant-calls g l = record {
  within : l.sent ≤ length l.bytes;
  bytes : Appends (g.W.Write.contents l.initial.writer) (g.W.Write.contents l.writer) (take l.sent l.bytes);
}
