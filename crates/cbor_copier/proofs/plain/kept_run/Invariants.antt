use Rattle.std.proofs.Common.{◌≡◌, ◌<◌, ◌≤◌, ◌-◌, List, take, length}
use Rattle.ciborium_ll_grammar.specs.Elements.{IsStrictRun, Mark}
use Rattle.cbor_copier.specs.Plain.{AreKept}
use Rattle.cbor_copier.proofs.plain.kept_run.Given as goal

abbrev pub invariant-elements : goal.invariant-elements
invariant-elements l =
    record {
      within : l.at ≤ length l.bytes;
      most : l.left ≤ l.most;
      last : l.last ≤ l.at;
      none : l.at ≡ 0 → l.left ≡ l.most;
      kept : 0 < l.at → AreKept (l.most - l.left) l.last (take l.at l.bytes);
      strict : (marks : List Mark) × IsStrictRun (l.most - l.left) (take l.at l.bytes) marks;
    }

abbrev pub decreases-elements : goal.decreases-elements
decreases-elements l = length l.bytes - l.at
