use Rattle.std.proofs.Common.{◌-◌, ◌^◌}
use Rattle.ciborium_ll.specs.Decoding.{MovesOn}
use Rattle.ciborium_ll.specs.Sides.{sides}
use Rattle.cbor_dump.specs.Sequences.{ReadsItems}
use Rattle.tool_verdicts.specs.Parts.{IsAtMost}
use Rattle.tool_verdicts.specs.Lines.{AreLines}
use Rattle.tool_verdicts.proofs.items.write_items.Given as goal

abbrev pub invariant-items : goal.invariant-items
invariant-items g l = record {
  few : IsAtMost l.most l.shown;
  reads : ReadsItems g.R.Read l.depth l.shown l.fn.decoder l.decoder;
  lines : AreLines g.R.Read g.W.Write l.fn.form l.fn.depth l.shown (sides l.fn.decoder l.fn.writer) (sides l.decoder l.writer);
  moves_on : MovesOn g.R.Read l.fn.decoder l.decoder;
}

-- Each item takes at least one byte.
abbrev pub decreases-items : goal.decreases-items
decreases-items g l = 2 ^ 64 - l.decoder.offset
