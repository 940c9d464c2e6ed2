use Rattle.std.proofs.Common.{◌-◌, ◌^◌}
use Rattle.ciborium_ll.specs.Types.Header.TheVariants as h
use Rattle.uses.specs.declared.cose.TheConstants.{MAP_DEPTH}
use Rattle.cbor_skip.proofs.ItemSteps.{SoFar}
use Rattle.uses.proofs.cose.pairs.Given as goal

abbrev pub invariant-items : goal.invariant-items
invariant-items g l = SoFar g.R.Read (h.Map l.fn.len) (MAP_DEPTH - 1) l.fn.decoder l.decoder l.remaining

abbrev pub decreases-items : goal.decreases-items
decreases-items g l = 2 ^ 64 - l.decoder.offset
