use Rattle.std.proofs.Common.{length, ◌-◌, ◌≡◌, ◌≤◌, take}
use Rattle.std.specs.Io.KnownBytes.{Consumes}
use Rattle.ciborium_ll_buffers.specs.Buffers.{buffered_ahead, buffered_read_capacity}
use Rattle.ciborium_ll_buffers.proofs.buffered.BufferedReader.read_on.Given as goal

abbrev pub invariant-loop-filled : goal.invariant-loop-filled
invariant-loop-filled g l = record {
  within : l.filled ≤ length l.«data»;
  failures : l.self.failures.count ≡ l.initial.self.failures.count;
  capacity : buffered_read_capacity l.self ≡ buffered_read_capacity l.initial.self;
  fault : l.self.fault ≡ l.initial.self.fault;
  bytes : Consumes (buffered_ahead g.T.Read.remaining l.initial.self) (buffered_ahead g.T.Read.remaining l.self)
      (take l.filled l.«data»);
}

abbrev pub decreases-loop-filled : goal.decreases-loop-filled
decreases-loop-filled g l = length l.initial.«data» - l.filled
