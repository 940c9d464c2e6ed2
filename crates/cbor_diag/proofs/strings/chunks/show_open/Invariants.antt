use Rattle.std.proofs.Common.{◌≤◌, ◌-◌, ◌^◌}
use Rattle.ciborium_ll.specs.Decoding.{MovesOn}
use Rattle.ciborium_ll.specs.Sides.{sides}
use Rattle.cbor_diag.proofs.OpenLaws.{OpenFar}
use Rattle.cbor_diag.proofs.strings.chunks.show_open.Given as goal

abbrev pub invariant-titles : goal.invariant-titles
invariant-titles g l = record {
  shown : OpenFar g.R.Read g.W.Write g.P.Parser.kind 64 (sides l.fn.decoder l.fn.writer) l.far.opens l.far.is_first
      (sides l.decoder l.writer);
  counted : l.far.opens ≤ l.decoder.offset;
  moves_on : MovesOn g.R.Read l.fn.decoder l.decoder;
}

abbrev pub decreases-titles : goal.decreases-titles
decreases-titles g l = 2 ^ 64 - l.decoder.offset
