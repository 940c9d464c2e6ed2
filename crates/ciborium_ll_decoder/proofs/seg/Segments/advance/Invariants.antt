use Rattle.std.proofs.Common.{◌≡◌, ◌+◌, ◌-◌, ◌≤◌, ◌^◌}
use Rattle.ciborium_ll_decoder.specs.Segments.{string_spelling}
use Rattle.ciborium_ll_decoder.specs.Decoding.{MovesOn, offset_of}
use Rattle.ciborium_ll_decoder.specs.Progress.{opens_of}
use Rattle.ciborium_ll_decoder.proofs.AdvanceLaws.{Reached}
use Rattle.ciborium_ll_decoder.proofs.seg.Segments.advance.Given as goal

abbrev pub invariant-titles : goal.invariant-titles
invariant-titles g l = record {
  same : l.self.decoder.ghost_name ≡ l.initial.self.decoder.ghost_name;
  mode : string_spelling l.self ≡ string_spelling l.initial.self;
  reached : Reached g.R.Read g.P.Parser.kind (string_spelling l.initial.self) l.initial.self.progress
      l.initial.self.decoder.now
      l.self.progress l.self.decoder.now;
  opens : opens_of l.self.progress + offset_of l.initial.self.decoder.now
      ≤ opens_of l.initial.self.progress + offset_of l.self.decoder.now;
  moves_on : MovesOn g.R.Read l.initial.self.decoder.now l.self.decoder.now;
}

abbrev pub decreases-titles : goal.decreases-titles
decreases-titles g l = 2 ^ 64 - offset_of l.self.decoder.now
