use Rattle.ciborium_ll_grammar.specs.declared.spelling.Spelling.{Spelling}
use Rattle.std.proofs.Common.{Bool, ◌-◌, ◌<◌, ◌≤◌, take, length}
use Rattle.cbor_checker.specs.Plain.{ArePlain}
use Rattle.cbor_checker.proofs.plain.text_run.Given as goal

abbrev pub invariant-texts : goal.invariant-texts
invariant-texts l =
    record {
      within : l.at ≤ length l.bytes;
      most : l.left ≤ l.most;
      some : l.left < l.most → 0 < l.at;
      plain : (allowed : Spelling) (tags : Bool)
          → ArePlain allowed tags l.offset l.fn.place (l.most - l.left) l.last (take l.at l.bytes);
    }

abbrev pub decreases-texts : goal.decreases-texts
decreases-texts l = l.left
