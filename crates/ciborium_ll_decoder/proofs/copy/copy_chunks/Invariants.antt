use Rattle.std.proofs.Common.{◌≡◌}
use Rattle.ciborium_ll_decoder.specs.Decoding.{MovesOn}
use Rattle.ciborium_ll_decoder.proofs.BodyCopyLaws.{BodySoFar}
use Rattle.ciborium_ll_decoder.proofs.copy.copy_chunks.Given as goal

abbrev pub invariant-chunks : goal.invariant-chunks
invariant-chunks g l = record {
  same : l.segment.decoder.ghost_name ≡ l.initial.segment.decoder.ghost_name;
  so_far : BodySoFar g.R.Read g.W.Write l.initial.segment l.initial.writer l.segment l.writer;
  moves_on : MovesOn g.R.Read l.initial.segment.decoder.now l.segment.decoder.now;
  target : g.W.Write.target l.writer ≡ g.W.Write.target l.initial.writer;
}

abbrev pub decreases-chunks : goal.decreases-chunks
decreases-chunks g l = l.segment.unread
