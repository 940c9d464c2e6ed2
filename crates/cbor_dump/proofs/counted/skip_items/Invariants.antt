use Rattle.std.proofs.Common.{◌≡◌, ◌≤◌, ◌-◌}
use Rattle.ciborium_ll.specs.Decoding.{MovesOn}
use Rattle.cbor_dump.specs.Sequences.{ReadsItems}
use Rattle.cbor_dump.proofs.counted.skip_items.Given as goal

abbrev pub invariant-items : goal.invariant-items
invariant-items g l = record {
  few : l.skipped ≤ l.count;
  reads : ReadsItems g.R.Read l.depth l.skipped l.fn.decoder l.decoder;
  none : l.count ≡ 0 → l.decoder ≡ l.fn.decoder;
  moves_on : MovesOn g.R.Read l.fn.decoder l.decoder;
}

abbrev pub decreases-items : goal.decreases-items
decreases-items g l = l.count - l.skipped
