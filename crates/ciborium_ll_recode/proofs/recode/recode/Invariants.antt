use Rattle.std.proofs.Common.{◌≡◌}
use Rattle.ciborium_ll_decoder.specs.Decoding.{MovesOn}
use Rattle.ciborium_ll_recode.specs.Recoding.{CopiesRun}
use Rattle.ciborium_ll_recode.specs.Sides.{sides_of}
use Rattle.ciborium_ll_recode.proofs.recode.recode.Given as goal

abbrev pub invariant-elements : goal.invariant-elements
invariant-elements g l = record {
  so_far : CopiesRun g.R.Read g.W.Write l._copied (sides_of l.initial.decoder l.initial.encoder)
      (sides_of l.decoder l.encoder);
  moves_on : MovesOn g.R.Read l.initial.decoder l.decoder;
  target : g.W.Write.target l.encoder.writer ≡ g.W.Write.target l.initial.encoder.writer;
}
