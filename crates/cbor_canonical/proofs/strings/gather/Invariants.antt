use Rattle.std.proofs.Common.{take, length, ◌+◌, ◌≤◌}
use Rattle.cbor_canonical.specs.Strings.{kind_of}
use Rattle.cbor_canonical.proofs.StringRuns.{Gathering}
use Rattle.cbor_canonical.proofs.strings.gather.Given as goal

abbrev pub invariant-steps : goal.invariant-steps
invariant-steps l = record {
  is : Gathering (kind_of l.kind) l.fn.bytes l.rest (take l.fn.at l.fn.out) (take l.end l.out) l.opens l.due;
  from : l.fn.at ≤ l.end;
  within : l.end ≤ length l.out;
  fewer : l.end + length l.rest ≤ l.fn.at + length l.fn.bytes;
}

abbrev pub decreases-steps : goal.decreases-steps
decreases-steps l = l.due
