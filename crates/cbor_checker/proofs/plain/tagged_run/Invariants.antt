use Rattle.std.proofs.Common.{◌<◌, ◌≤◌, ◌-◌, length, take, true}
use Rattle.cbor_checker.specs.Plain.{ArePlain}
use Rattle.cbor_checker.proofs.plain.tagged_run.Given as goal

abbrev pub invariant-items : goal.invariant-items
invariant-items l =
    record {
      within : l.at ≤ length l.bytes;
      most : l.left ≤ l.most;
      some : l.left < l.most → 0 < l.at;
      plain : ArePlain l.spelling true l.offset l.fn.place (l.most - l.left) l.last (take l.at l.bytes);
    }

abbrev pub decreases-items : goal.decreases-items
decreases-items l = length l.bytes - l.at
