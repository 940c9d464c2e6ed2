use Rattle.std.proofs.Common.{◌≡◌, ◌-◌, ◌^◌}
use Rattle.ciborium_ll_decoder.specs.Decoding.{MovesOn, spelling_of}
use Rattle.ciborium_ll_decoder.specs.Segments.{string_spelling}
use Rattle.ciborium_ll_recode.specs.Sides.{sides_of}
use Rattle.ciborium_ll_recode.proofs.SegmentCopyLaws.{CopiedSoFar}
use Rattle.ciborium_ll_recode.proofs.recode.copy_segments.Given as goal

abbrev pub invariant-segments : goal.invariant-segments
invariant-segments g l = record {
  same : l.segments.decoder.ghost_name ≡ l.initial.segments.decoder.ghost_name;
  mode : string_spelling l.segments ≡ spelling_of l.fn.decoder;
  so_far : CopiedSoFar g.R.Read g.W.Write g.P.Parser.kind (sides_of l.fn.decoder l.fn.encoder) l.segments.progress
      (sides_of l.segments.decoder.now l.encoder);
  moves_on : MovesOn g.R.Read l.fn.decoder l.segments.decoder.now;
  target : g.W.Write.target l.encoder.writer ≡ g.W.Write.target l.fn.encoder.writer;
}

abbrev pub decreases-segments : goal.decreases-segments
decreases-segments g l = 2 ^ 64 - l.segments.decoder.now.offset
