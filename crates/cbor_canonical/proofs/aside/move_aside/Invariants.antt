use Rattle.std.proofs.Common.{length, take, ◌++◌, ◌≡◌, ◌-◌, ◌≤◌}
use Rattle.std.specs.List.{AllByRecursion}
use Rattle.cbor_canonical.specs.Places.{IsWithin, entries_at}
use Rattle.cbor_canonical.specs.Runs.{joined_pairs}
use Rattle.cbor_canonical.proofs.aside.move_aside.Given as goal

abbrev pub invariant-pairs : goal.invariant-pairs
invariant-pairs l = record {
  until : l.next ≤ l.done;
  start : l.end ≤ l.place;
  within : l.place ≤ length l.out;
  wrote : AllByRecursion (IsWithin l.at l.end) (take l.done l.spans)
      → take l.place l.out ≡ take l.end l.fn.out ++ joined_pairs (entries_at l.fn.out (take l.next l.spans));
}

abbrev pub decreases-pairs : goal.decreases-pairs
decreases-pairs l = l.done - l.next
