use Rattle.std.proofs.Common.{◌≡◌, ◌≤◌, take}
use Rattle.std.specs.List.{sum_by}
use Rattle.cbor_canonical.specs.Places.{starts_before}
use Rattle.cbor_canonical.proofs.pairs.count_before.Given as goal

abbrev pub invariant-loop-span : goal.invariant-loop-span
invariant-loop-span l = record {
  counted : l.pairs ≡ sum_by (starts_before l.offset) (take l.span-index l.spans);
  few : l.pairs ≤ l.span-index;
}
