use Rattle.std.proofs.Common.{◌≡◌, ◌-◌, ◌^◌, ℕ, Option, None}
use Rattle.ciborium_ll.specs.Types.Decoder.{Decoder}
use Rattle.ciborium_ll.specs.Title.{IsInRange}
use Rattle.ciborium_ll.specs.Strings.{kind_header}
use Rattle.ciborium_ll.specs.Decoding.{MovesOn, TakesBack, waiting_of, spelling_of}
use Rattle.ciborium_ll.proofs.SkipLaws.{SkipsSoFar}
use Rattle.ciborium_ll.specs.Segments.{string_spelling}
use Rattle.cbor_json.proofs.ContentLaws.{CopiedFar}
use Rattle.cbor_json.proofs.strings.copy_bodies.Given as goal

abbrev pub invariant-segments : goal.invariant-segments
invariant-segments g l = record {
  same : l.segments.decoder.ghost_name ≡ l.initial.segments.decoder.ghost_name;
  mode : string_spelling l.segments ≡ string_spelling l.initial.segments;
  so_far : (opened : Decoder g.row.R.Denot) (len : Option ℕ) → IsInRange (kind_header g.P.Parser.kind len)
      → waiting_of opened ≡ None
      → TakesBack g.R.Read opened (kind_header g.P.Parser.kind len) l.initial.segments.decoder.now
      → string_spelling l.initial.segments ≡ spelling_of opened
      → SkipsSoFar g.R.Read g.P.Parser.kind len opened l.segments.progress
      l.segments.decoder.now;
  copied : (opened : Decoder g.row.R.Denot) (len : Option ℕ) → IsInRange (kind_header g.P.Parser.kind len)
      → waiting_of opened ≡ None
      → TakesBack g.R.Read opened (kind_header g.P.Parser.kind len) l.initial.segments.decoder.now
      → CopiedFar g.R.Read g.W.Write g.P.Parser.kind len opened l.initial.writer l.segments.progress
      l.segments.decoder.now l.writer;
  moves_on : MovesOn g.R.Read l.initial.segments.decoder.now l.segments.decoder.now;
  target : g.W.Write.target l.writer ≡ g.W.Write.target l.initial.writer;
}

abbrev pub decreases-segments : goal.decreases-segments
decreases-segments g l = 2 ^ 64 - l.segments.decoder.now.offset
