use Rattle.std.proofs.Common.{◌≡◌, ◌-◌, ◌^◌, None}
use Rattle.ciborium_ll.specs.Types.Decoder.{Decoder}
use Rattle.ciborium_ll.specs.Title.{IsInRange}
use Rattle.ciborium_ll.specs.Strings.{kind_header}
use Rattle.ciborium_ll.specs.Decoding.{MovesOn, TakesBack, waiting_of, spelling_of}
use Rattle.ciborium_ll.proofs.SkipLaws.{SkipsSoFar}
use Rattle.ciborium_ll.specs.Segments.{string_spelling}
use Rattle.cbor_diag.proofs.StringShowLaws.{TextSoFar}
use Rattle.cbor_diag.proofs.strings.show_segments.Given as goal

abbrev pub invariant-segments : goal.invariant-segments
invariant-segments g l = record {
  same : l.segments.decoder.ghost_name ≡ l.initial.segments.decoder.ghost_name;
  mode : string_spelling l.segments ≡ string_spelling l.initial.segments;
  so_far : (opened : Decoder g.row.R.Denot) → IsInRange (kind_header g.P.Parser.kind None)
      → waiting_of opened ≡ None
      → TakesBack g.R.Read opened (kind_header g.P.Parser.kind None) l.initial.segments.decoder.now
      → string_spelling l.initial.segments ≡ spelling_of opened
      → SkipsSoFar g.R.Read g.P.Parser.kind None opened l.segments.progress
      l.segments.decoder.now;
  text : (opened : Decoder g.row.R.Denot) → IsInRange (kind_header g.P.Parser.kind None)
      → waiting_of opened ≡ None
      → TakesBack g.R.Read opened (kind_header g.P.Parser.kind None) l.initial.segments.decoder.now
      → TextSoFar g.R.Read g.W.Write g.P.Parser.kind l.quotes None opened l.initial.writer l.is_first
      l.segments.progress l.segments.decoder.now l.writer;
  moves_on : MovesOn g.R.Read l.initial.segments.decoder.now l.segments.decoder.now;
}

abbrev pub decreases-segments : goal.decreases-segments
decreases-segments g l = 2 ^ 64 - l.segments.decoder.now.offset
