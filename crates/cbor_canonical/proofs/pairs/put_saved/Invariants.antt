use Rattle.std.proofs.Common.{ℕ, List, length, take, drop, ◌++◌, ◌≡◌, ◌-◌, ◌+◌, ◌<◌, ◌≤◌}
use Rattle.cbor_canonical.specs.Places.{IsSaved}
use Rattle.cbor_canonical.proofs.pairs.put_saved.Given as goal

abbrev pub invariant-bytes : goal.invariant-bytes
invariant-bytes l = record {
  start : l.from ≤ l.next;
  until : l.from < l.next → l.next ≤ l.to;
  reach : l.at + (l.next - l.from) ≡ l.end;
  within : l.end ≤ length l.out;
  wrote : (bytes : List ℕ) → IsSaved bytes l.spans → l.to ≤ length bytes
      → take l.end l.out ≡ take l.at l.fn.out ++ take (l.next - l.from) (drop l.from bytes);
}

abbrev pub decreases-bytes : goal.decreases-bytes
decreases-bytes l = l.to - l.next
