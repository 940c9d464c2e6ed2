use Rattle.std.proofs.Common.{length, ◌-◌, ◌≡◌, ◌≤◌, take}
use Rattle.std.specs.Io.KnownBytes.{Appends}
use Rattle.ciborium_ll_streams.proofs.streams.write_calls.Given as goal

abbrev pub invariant-loop-sent : goal.invariant-loop-sent
invariant-loop-sent g l = record {
  within : l.sent ≤ length l.bytes;
  bytes : Appends (g.W.Write.contents l.initial.sink) (g.W.Write.contents l.sink) (take l.sent l.bytes);
  empty : l.sent ≡ 0 → l.sink ≡ l.initial.sink;
}

abbrev pub decreases-loop-sent : goal.decreases-loop-sent
decreases-loop-sent g l = length l.bytes - l.sent
