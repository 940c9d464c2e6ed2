use Rattle.std.proofs.Common.{◌≡◌}
use Rattle.ciborium_ll_decoder.specs.Decoding.{MovesOn}
use Rattle.ciborium_ll_decoder.proofs.FinishLaws.{RestSoFar}
use Rattle.ciborium_ll_decoder.proofs.seg.Segment.drain.Given as goal

abbrev pub invariant-chunks : goal.invariant-chunks
invariant-chunks g l = record {
  same : l.self.decoder.ghost_name ≡ l.initial.self.decoder.ghost_name;
  so_far : RestSoFar g.R.Read l.initial.self l.self;
  moves_on : MovesOn g.R.Read l.initial.self.decoder.now l.self.decoder.now;
}

abbrev pub decreases-chunks : goal.decreases-chunks
decreases-chunks g l = l.self.unread
