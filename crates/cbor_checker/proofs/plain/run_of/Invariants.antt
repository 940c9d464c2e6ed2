use Rattle.std.proofs.Common.{◌+◌, Bool, ◌<◌, ◌≤◌, ◌-◌, take, length}
use Rattle.cbor_checker.specs.Plain.{ArePlain}
use Rattle.cbor_checker.proofs.PlainRuns.{place_after}
use Rattle.cbor_checker.proofs.plain.run_of.Given as goal

abbrev pub invariant-items : goal.invariant-items
invariant-items l =
    record {
      within : l.at ≤ length l.bytes;
      most : l.left ≤ l.most;
      some : l.left < l.most → 0 < l.at;
      last : l.last ≤ l.at;
      plain : (tags : Bool) → ArePlain l.spelling tags l.offset l.fn.place (l.most - l.left)
          (place_after l.fn.place l.at (l.offset + l.last)) (take l.at l.bytes);
    }

abbrev pub decreases-items : goal.decreases-items
decreases-items l = length l.bytes - l.at
