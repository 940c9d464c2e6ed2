use Rattle.std.proofs.Common.{◌-◌, ◌≤◌, length, take}
use Rattle.cbor_deterministic.specs.Flat.{AreFlatItems}
use Rattle.cbor_deterministic.proofs.flat.flat_run.Given as goal

abbrev pub invariant-items : goal.invariant-items
invariant-items l = record {
  within : l.at ≤ length l.bytes;
  most : l.left ≤ l.most;
  flat : AreFlatItems (l.most - l.left) (take l.at l.bytes);
}

abbrev pub decreases-items : goal.decreases-items
decreases-items l = l.left
