use Rattle.std.proofs.Common.{◌+◌, ◌-◌, ◌*◌, ◌^◌, length}
use Rattle.ciborium_ll.specs.Decoding.{MovesOn}
use Rattle.cbor_skip.proofs.ItemSteps.{SoFar}
use Rattle.ciborium_ll.specs.Sides.{sides}
use Rattle.cbor_diag.specs.Places.{place_of}
use Rattle.cbor_diag.proofs.ItemTextLaws.{ItemsFar}
use Rattle.cbor_diag.proofs.nests.+items.Given as goal

abbrev pub decreases-show_item : goal.decreases-show_item
decreases-show_item g l = 2 * l.depth

abbrev pub decreases-show_within : goal.decreases-show_within
decreases-show_within g l = 2 * l.depth + 1

abbrev pub invariant-show_within-items : goal.invariant-show_within-items
invariant-show_within-items g l = record {
  so_far : SoFar g.R.Read l.fn.nest.header l.depth l.fn.decoder l.decoder l.remaining;
  items : ItemsFar g.R.Read g.W.Write (place_of l.fn.line g.B.Bodies.strings l.fn.depth (length l.fn.memory))
      l.fn.nest.header l.fn.nest.mark
      (sides l.fn.decoder l.fn.writer) l.remaining l.is_first (sides l.decoder l.writer);
  moves_on : MovesOn g.R.Read l.fn.decoder l.decoder;
}

abbrev pub decreases-show_within-items : goal.decreases-show_within-items
decreases-show_within-items g l = 2 ^ 64 - l.decoder.offset
