use Rattle.std.proofs.Common.{◌≡◌, ◌-◌, ◌≤◌, length}
use Rattle.ciborium_ll.specs.Elements.{spelling}
use Rattle.ciborium_ll.specs.Recoding.{CopiesRun}
use Rattle.ciborium_ll.specs.Sides.{sides}
use Rattle.capi.proofs.tally.copy_counted.Given as goal

abbrev pub invariant-elements : goal.invariant-elements
invariant-elements g l = record {
  so_far : CopiesRun g.R.Read g.W.Write l.tally.elements (sides l.fn.decoder l.fn.writer) (sides l.decoder l.writer);
  most : l.tally.elements ≤ l.count;
  behind : l.tally.whole ≡ l.decoder.offset;
  spelled : l.tally.spelled ≡ length (spelling so_far.marks);
  target : g.W.Write.target l.writer ≡ g.W.Write.target l.fn.writer;
}

abbrev pub decreases-elements : goal.decreases-elements
decreases-elements g l = l.count - l.tally.elements
