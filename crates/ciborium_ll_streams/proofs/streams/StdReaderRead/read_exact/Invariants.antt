use Rattle.std.proofs.Common.{length, ◌-◌, ◌≡◌, ◌≤◌, take}
use Rattle.std.specs.Io.KnownBytes.{Consumes}
use Rattle.ciborium_ll_streams.proofs.streams.StdReaderRead.read_exact.Given as goal

abbrev pub invariant-loop-filled : goal.invariant-loop-filled
invariant-loop-filled g l = record {
  within : l.filled ≤ length l.«data»;
  failures : l.self.failures.count ≡ l.initial.self.failures.count;
  bytes : Consumes (g.T.Read.remaining l.initial.self.source) (g.T.Read.remaining l.self.source)
      (take l.filled l.«data»);
  empty : l.filled ≡ 0 → l.self.source ≡ l.initial.self.source;
}

abbrev pub decreases-loop-filled : goal.decreases-loop-filled
decreases-loop-filled g l = length l.initial.«data» - l.filled
