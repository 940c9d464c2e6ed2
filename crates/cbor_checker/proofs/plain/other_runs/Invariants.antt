use Rattle.std.proofs.Common.{◌-◌, ◌<◌, ◌≤◌, take, length}
use Rattle.cbor_checker.specs.Plain.{ArePlain}
use Rattle.cbor_checker.proofs.plain.other_runs.Given as goal

abbrev pub invariant-runs : goal.invariant-runs
invariant-runs l =
    record {
      within : l.run.len ≤ length l.bytes;
      most : l.run.left ≤ l.most;
      some : l.run.left < l.most → 0 < l.run.len;
      plain : ArePlain l.spelling l.tags l.offset l.fn.place (l.most - l.run.left) l.place
          (take l.run.len l.bytes);
    }

abbrev pub decreases-runs : goal.decreases-runs
decreases-runs l = length l.bytes - l.run.len
