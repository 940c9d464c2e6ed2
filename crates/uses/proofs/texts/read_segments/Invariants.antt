use Rattle.std.proofs.Common.{◌≡◌, ◌≤◌, length}
use Rattle.ciborium_ll.specs.Decoding.{MovesOn, spelling_of}
use Rattle.ciborium_ll.specs.Segments.{string_spelling}
use Rattle.uses.proofs.TextLaws.{GatheredSoFar}
use Rattle.uses.proofs.texts.read_segments.Given as goal

abbrev pub invariant-segments : goal.invariant-segments
invariant-segments g l = record {
  same : l.segments.decoder.ghost_name ≡ l.initial.segments.decoder.ghost_name;
  mode : string_spelling l.segments ≡ spelling_of l.initial.segments.decoder.now;
  so_far : GatheredSoFar g.R.Read l.initial.segments.progress l.initial.segments.decoder.now l._read
      l.text.bytes.items l.segments.progress l.segments.decoder.now;
  within : length l.text.bytes.items ≤ l.limit;
  moves_on : MovesOn g.R.Read l.initial.segments.decoder.now l.segments.decoder.now;
}
