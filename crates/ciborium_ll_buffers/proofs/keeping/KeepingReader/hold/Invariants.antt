use Rattle.std.proofs.Common.{◌≡◌, ◌-◌, IsSome, length}
use Rattle.ciborium_ll_buffers.specs.Buffers.{HoldsMore, keeping_capacity, keeping_failures, keeping_fault}
use Rattle.ciborium_ll_buffers.specs.Buffers.{keeping_held}
use Rattle.ciborium_ll_buffers.proofs.keeping.KeepingReader.hold.Given as goal

abbrev pub invariant-more : goal.invariant-more
invariant-more g l = record {
  failures : keeping_failures l.self ≡ keeping_failures l.fn.self;
  capacity : keeping_capacity l.self ≡ keeping_capacity l.fn.self;
  holds : HoldsMore g.T.Read.remaining l.fn.self l.self;
  fault : keeping_fault l.self ≡ keeping_fault l.fn.self;
  still : IsSome (keeping_fault l.fn.self) → l.self ≡ l.fn.self;
}

-- Each call adds bytes to the bytes that are held.
abbrev pub decreases-more : goal.decreases-more
decreases-more g l = l.len - length (keeping_held l.self)
