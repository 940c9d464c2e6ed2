use Rattle.std.proofs.Common.{◌≡◌, take}
use Rattle.ciborium_ll_decoder.specs.Decoding.{MovesOn}
use Rattle.ciborium_ll.specs.Drains.{DrainsEach}
use Rattle.ciborium_ll.proofs.laws.drains.drain.Given as goal

abbrev pub invariant-sizes : goal.invariant-sizes
invariant-sizes g l = record {
  same : l.segment.decoder.ghost_name ≡ l.initial.segment.decoder.ghost_name;
  each : DrainsEach g.R.Read g.W.Write (take l.index l.fn.sizes) l.initial.segment l.initial.sink.writer l.segment
      l.sink.writer;
  moves_on : MovesOn g.R.Read l.initial.segment.decoder.now l.segment.decoder.now;
  target : g.W.Write.target l.sink.writer ≡ g.W.Write.target l.initial.sink.writer;
}
