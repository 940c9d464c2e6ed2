use Rattle.std.proofs.Common.{◌+◌, ◌-◌, ◌*◌, ◌^◌}
use Rattle.ciborium_ll.specs.Decoding.{MovesOn}
use Rattle.cbor_skip.proofs.ItemSteps.{SoFar}
use Rattle.ciborium_ll.specs.Sides.{sides}
use Rattle.cbor_json.proofs.ItemWriteLaws.{ItemsFar}
use Rattle.cbor_json.proofs.nests.+items.Given as goal

abbrev pub decreases-write_item : goal.decreases-write_item
decreases-write_item g l = 2 * l.depth

abbrev pub decreases-write_within : goal.decreases-write_within
decreases-write_within g l = 2 * l.depth + 1

abbrev pub invariant-write_within-items : goal.invariant-write_within-items
invariant-write_within-items g l = record {
  so_far : SoFar g.R.Read l.fn.header l.depth l.fn.decoder l.decoder l.remaining;
  items : ItemsFar g.R.Read g.W.Write l.fn.role l.fn.header (sides l.fn.decoder l.fn.writer) l.remaining l.is_first
      (sides l.decoder l.writer);
  moves_on : MovesOn g.R.Read l.fn.decoder l.decoder;
}

abbrev pub decreases-write_within-items : goal.decreases-write_within-items
decreases-write_within-items g l = 2 ^ 64 - l.decoder.offset
