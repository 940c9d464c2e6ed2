use Rattle.std.proofs.Common.{◌≡◌, ◌-◌, ◌^◌}
use Rattle.ciborium_ll.specs.Decoding.{MovesOn}
use Rattle.cbor_dump.specs.Sequences.{ReadsItems}
use Rattle.cbor_dump.proofs.sequence.check.Given as goal

abbrev pub invariant-items : goal.invariant-items
invariant-items g l = record {
  reads : ReadsItems g.R.Read l.depth l.items l.fn.decoder l.decoder;
  start : l.start ≡ l.fn.decoder.offset;
  moves_on : MovesOn g.R.Read l.fn.decoder l.decoder;
}

-- Each item takes at least one byte.
abbrev pub decreases-items : goal.decreases-items
decreases-items g l = 2 ^ 64 - l.decoder.offset
