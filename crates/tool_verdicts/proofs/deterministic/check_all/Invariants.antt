use Rattle.std.proofs.Common.{◌-◌, ◌≤◌, length, take}
use Rattle.cbor_deterministic.specs.Deterministic.{AreDeterministic}
use Rattle.tool_verdicts.proofs.deterministic.check_all.Given as goal

-- The bytes up to the start are items in the encoding, and each has a byte.
abbrev pub invariant-items : goal.invariant-items
invariant-items l = record {
  within : l.start ≤ length l.bytes;
  are : AreDeterministic l.order l.depth l.items (take l.start l.bytes);
  few : l.items ≤ l.start;
}

abbrev pub decreases-items : goal.decreases-items
decreases-items l = length l.bytes - l.start
