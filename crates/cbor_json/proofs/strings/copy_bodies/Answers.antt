use Rattle.std.proofs.Common.{rules, sym, ◌≡◌, ◌∙◌, ◌<◌, [], None, Err, arith}
use Rattle.ciborium_ll.specs.Finishing.{EndsBody}
use Rattle.ciborium_ll.specs.Skipping.{SkipsString}
use Rattle.ciborium_ll.specs.Sides.{sides}
use Rattle.ciborium_ll.proofs.DecodingLaws.{exit_is, MovesOn-then}
use Rattle.ciborium_ll.proofs.SkipLaws.{skips_end, skips_error, skips_body, skips_stop, found_rises}
use Rattle.ciborium_ll.specs.Segments.{string_spelling}
use Rattle.cbor_json.proofs.ContentLaws.{body_reads, content_ended, content_fails, content_more, content_stops}
use Rattle.cbor_json.proofs.ReadingLaws.{copy_stops}
use Rattle.cbor_json.proofs.strings.copy_bodies.Goals as goal

pub segments-smaller : goal.segments-smaller
segments-smaller g c =
    let now = c.segments.segments in
    let new = c.advance.new.self in
    let rises = found_rises g.R.Read g.P.Parser.kind (string_spelling now) now.progress new.progress now.decoder.now
    new.decoder.now c.in-Some.body (rw c.in-Some.is at c.in_ok-body.ensures.advances) in
    let risen : now.decoder.now.offset < c.copy.new.self.decoder.now.offset =
    omega (arith, rises, c.copy.ensures.moves_on.rises) in
    search rules

pub segments-preserved : goal.segments-preserved
segments-preserved g c =
    let advances = rw (c.in-Some.is, sym c.copy.ensures.progress) at c.in_ok-body.ensures.advances in
    record {
      same = search rules;
      mode = c.copy.ensures.mode ∙ (c.advance.ensures.mode ∙ c.segments.invariant.mode);
      so_far = λ opened len range settled back meant.
          skips_body g.R.Read g.P.Parser.kind (string_spelling c.segments.segments) len 64 opened
          c.segments.segments.decoder.now
          c.advance.new.self.decoder.now c.copy.new.self.decoder.now c.segments.segments.progress
          c.copy.new.self.progress c.in-Some.body (c.segments.invariant.mode ∙ meant)
          (c.segments.invariant.so_far opened len range settled back meant)
          c.advance.ensures.moves_on.steady c.copy.ensures.moves_on.steady advances c.in_ok-copy.ensures.copied.ends;
      copied = λ opened len range settled back.
          content_more (string_spelling c.segments.segments) (c.segments.invariant.copied opened len range settled back)
          c.advance.new.self.decoder.now c.advance.ensures.moves_on.steady c.copy.new.self.progress 64 c.in-Some.body
          advances c.copy.new.self.decoder.now c.copy.new.writer c.in_ok-copy.ensures.copied;
      moves_on = MovesOn-then g.R.Read _ _ _ c.segments.invariant.moves_on
          (MovesOn-then g.R.Read _ _ _ c.advance.ensures.moves_on c.copy.ensures.moves_on);
      target = c.copy.ensures.target ∙ c.segments.invariant.target;
    }

-- ---- the reads

pub returns-in_default-clause-reads : goal.returns-in_default-clause-reads
returns-in_default-clause-reads g c = λ opened len range settled back meant.
    let none : c.in_ok-body.field-0 ≡ None = search rules in
    let now = c.segments.segments in
    let new = c.advance.new.self in
    skips_end g.R.Read g.P.Parser.kind (string_spelling now) len 64 opened now.decoder.now new.decoder.now now.progress
    new.progress (c.segments.invariant.mode ∙ meant) (c.segments.invariant.so_far opened len range settled back meant)
    c.advance.ensures.moves_on.steady (rw none at c.in_ok-body.ensures.advances)

pub returns-in_err-body-clause-reads : goal.returns-in_err-body-clause-reads
returns-in_err-body-clause-reads g c = λ opened len range settled back meant.
    let now = c.segments.segments in
    let new = c.advance.new.self in
    rw (exit_is _ _ c.from_residual.ensures.1) (skips_error g.R.Read g.P.Parser.kind (string_spelling now) len 64 opened
    now.decoder.now new.decoder.now now.progress new.progress c.in_err-body.field-0.0 (search rules)
    (c.segments.invariant.mode ∙ meant) (c.segments.invariant.so_far opened len range settled back meant)
    c.advance.ensures.moves_on.steady c.in_err-body.ensures.advances)

pub returns-in_err-copy-clause-reads : goal.returns-in_err-copy-clause-reads
returns-in_err-copy-clause-reads g c = λ opened len range settled back meant.
    let now = c.segments.segments in
    let new = c.advance.new.self in
    let ended = c.copy.new.self.decoder.now in
    let body = c.in-Some.body in
    rw (exit_is _ _ c.from_residual-in_err-copy.ensures.1) (copy_stops
    (λ answer. EndsBody g.R.Read g.P.Parser.kind [] body.length 64 body.place new.decoder.now answer ended)
    (λ answer. SkipsString g.R.Read g.P.Parser.kind len 64 opened answer ended) _
    (λ fault ends. skips_stop g.R.Read g.P.Parser.kind (string_spelling now) len 64 opened now.decoder.now
    new.decoder.now ended
    now.progress new.progress body fault (c.segments.invariant.mode ∙ meant)
    (c.segments.invariant.so_far opened len range settled back meant) c.advance.ensures.moves_on.steady
    (rw c.in-Some.is at c.in_ok-body.ensures.advances) ends)
    (body_reads g.R.Read g.W.Write g.P.Parser.kind body.length 64 body.place (sides new.decoder.now c.segments.writer)
    (sides ended c.copy.new.writer) (Err c.in_err-copy.field-0.0) c.in_err-copy.ensures.copied))

-- ---- how the decoder is left

pub returns-in_default-clause-moves_on : goal.returns-in_default-clause-moves_on
returns-in_default-clause-moves_on g c =
    MovesOn-then g.R.Read _ _ _ c.segments.invariant.moves_on c.advance.ensures.moves_on

pub returns-in_err-body-clause-moves_on : goal.returns-in_err-body-clause-moves_on
returns-in_err-body-clause-moves_on g c =
    MovesOn-then g.R.Read _ _ _ c.segments.invariant.moves_on c.advance.ensures.moves_on

pub returns-in_err-copy-clause-moves_on : goal.returns-in_err-copy-clause-moves_on
returns-in_err-copy-clause-moves_on g c =
    MovesOn-then g.R.Read _ _ _ c.segments.invariant.moves_on
    (MovesOn-then g.R.Read _ _ _ c.advance.ensures.moves_on c.copy.ensures.moves_on)

-- ---- the copies

pub returns-in_default-clause-copied : goal.returns-in_default-clause-copied
returns-in_default-clause-copied g c = λ opened len range settled back.
    let none : c.in_ok-body.field-0 ≡ None = search rules in
    content_ended (string_spelling c.segments.segments) (c.segments.invariant.copied opened len range settled back)
    c.advance.new.self.decoder.now c.advance.ensures.moves_on.steady c.advance.new.self.progress 64
    (rw none at c.in_ok-body.ensures.advances)

pub returns-in_err-body-clause-copied : goal.returns-in_err-body-clause-copied
returns-in_err-body-clause-copied g c = λ opened len range settled back.
    rw (exit_is _ _ c.from_residual.ensures.1) (content_fails (string_spelling c.segments.segments)
    (c.segments.invariant.copied opened len range settled back) c.advance.new.self.decoder.now
    c.advance.ensures.moves_on.steady c.advance.new.self.progress 64 _ c.in_err-body.ensures.advances)

pub returns-in_err-copy-clause-copied : goal.returns-in_err-copy-clause-copied
returns-in_err-copy-clause-copied g c = λ opened len range settled back.
    rw (exit_is _ _ c.from_residual-in_err-copy.ensures.1) (content_stops (string_spelling c.segments.segments)
    (c.segments.invariant.copied opened len range settled back) c.advance.new.self.decoder.now
    c.advance.ensures.moves_on.steady c.advance.new.self.progress 64 c.in-Some.body
    (rw c.in-Some.is at c.in_ok-body.ensures.advances) _ _ c.in_err-copy.ensures.copied)
