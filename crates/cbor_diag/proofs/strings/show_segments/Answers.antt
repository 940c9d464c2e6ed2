use Rattle.std.proofs.Common.{rules, sym, ◌≡◌, ◌∙◌, ◌<◌, [], None, arith, refl, true}
use Rattle.ciborium_ll.specs.Finishing.{EndsBody}
use Rattle.ciborium_ll.specs.Skipping.{SkipsString}
use Rattle.ciborium_ll.proofs.DecodingLaws.{exit_is, MovesOn-then}
use Rattle.ciborium_ll.proofs.SkipLaws.{skips_end, skips_error, skips_body, skips_stop, found_rises}
use Rattle.ciborium_ll.specs.Segments.{string_spelling}
use Rattle.cbor_diag.proofs.ShowLaws.{string_unread, string_whole, string_stops}
use Rattle.cbor_diag.proofs.StringShowLaws.{any_mark, text_closed, text_fails, text_more, text_stops, text_unled}
use Rattle.cbor_diag.proofs.strings.show_segments.Goals as goal

pub segments-smaller : goal.segments-smaller
segments-smaller g c =
    let now = c.segments.segments in
    let new = c.advance.new.self in
    let rises = found_rises g.R.Read g.P.Parser.kind (string_spelling now) now.progress new.progress now.decoder.now
    new.decoder.now c.in-Some.body (rw c.in-Some.is at c.in_ok-body.ensures.advances) in
    let risen : now.decoder.now.offset < c.show_body.new.segments.decoder.now.offset =
    omega (arith, rises, c.show_body.ensures.moves_on.rises) in
    search rules

pub segments-preserved : goal.segments-preserved
segments-preserved g c =
    let advances = rw c.in-Some.is at c.in_ok-body.ensures.advances in
    record {
      same = search rules;
      mode = c.show_body.ensures.mode ∙ (c.advance.ensures.mode ∙ c.segments.invariant.mode);
      so_far = λ opened range settled back meant.
          skips_body g.R.Read g.P.Parser.kind (string_spelling c.segments.segments) None 64 opened
          c.segments.segments.decoder.now
          c.advance.new.self.decoder.now c.show_body.new.segments.decoder.now c.segments.segments.progress
          c.show_body.new.segments.progress c.in-Some.body (c.segments.invariant.mode ∙ meant)
          (c.segments.invariant.so_far opened range settled back meant)
          c.advance.ensures.moves_on.steady c.show_body.ensures.moves_on.steady
          (rw (sym c.show_body.ensures.progress) at advances) c.in_ok-show_body.ensures.reads;
      text = λ opened range settled back.
          text_more (string_spelling c.segments.segments) (c.segments.invariant.text opened range settled back)
          c.advance.new.self.decoder.now c.advance.ensures.moves_on.steady c.show_body.new.segments.progress
          true refl c.in-Some.body (rw (sym c.show_body.ensures.progress) at advances) c.open.new.writer
          c.in_ok-open.ensures.written 64 c.show_body.new.segments.decoder.now c.show_body.new.writer
          c.in_ok-show_body.ensures.text;
      moves_on = MovesOn-then g.R.Read _ _ _ c.segments.invariant.moves_on
          (MovesOn-then g.R.Read _ _ _ c.advance.ensures.moves_on c.show_body.ensures.moves_on);
    }

pub returns-in_default-clause-reads : goal.returns-in_default-clause-reads
returns-in_default-clause-reads g c = λ opened range settled back meant.
    let none : c.in_ok-body.field-0 ≡ None = search rules in
    let now = c.segments.segments in
    let new = c.advance.new.self in
    string_whole (λ answer. SkipsString g.R.Read g.P.Parser.kind None 64 opened answer new.decoder.now) c.close.result
    (skips_end g.R.Read g.P.Parser.kind (string_spelling now) None 64 opened now.decoder.now new.decoder.now
    now.progress new.progress (c.segments.invariant.mode ∙ meant)
    (c.segments.invariant.so_far opened range settled back meant)
    c.advance.ensures.moves_on.steady (rw none at c.in_ok-body.ensures.advances)) c.close.ensures.writing

pub returns-in_err-body-clause-reads : goal.returns-in_err-body-clause-reads
returns-in_err-body-clause-reads g c = λ opened range settled back meant.
    let now = c.segments.segments in
    let new = c.advance.new.self in
    rw (exit_is _ _ c.from_residual.ensures.1) (skips_error g.R.Read g.P.Parser.kind (string_spelling now) None 64
    opened now.decoder.now new.decoder.now now.progress new.progress c.in_err-body.field-0.0 (search rules)
    (c.segments.invariant.mode ∙ meant) (c.segments.invariant.so_far opened range settled back meant)
    c.advance.ensures.moves_on.steady c.in_err-body.ensures.advances)

pub returns-in_err-open-clause-reads : goal.returns-in_err-open-clause-reads
returns-in_err-open-clause-reads g c = λ opened range settled back meant.
    rw (exit_is _ _ c.from_residual-in_err-open.ensures.1) (string_unread (λ answer. SkipsString g.R.Read
    g.P.Parser.kind None 64 opened answer c.advance.new.self.decoder.now) _ c.in_err-open.ensures.writing)

pub returns-in_err-show_body-clause-reads : goal.returns-in_err-show_body-clause-reads
returns-in_err-show_body-clause-reads g c = λ opened range settled back meant.
    let now = c.segments.segments in
    let new = c.advance.new.self in
    let ended = c.show_body.new.segments.decoder.now in
    let body = c.in-Some.body in
    rw (exit_is _ _ c.from_residual-in_err-show_body.ensures.1) (string_stops
    (λ answer. EndsBody g.R.Read g.P.Parser.kind [] body.length 64 body.place new.decoder.now answer ended)
    (λ answer. SkipsString g.R.Read g.P.Parser.kind None 64 opened answer ended) _
    (λ fault ends. skips_stop g.R.Read g.P.Parser.kind (string_spelling now) None 64 opened now.decoder.now
    new.decoder.now ended
    now.progress new.progress body fault (c.segments.invariant.mode ∙ meant)
    (c.segments.invariant.so_far opened range settled back meant) c.advance.ensures.moves_on.steady
    (rw c.in-Some.is at c.in_ok-body.ensures.advances) ends) c.in_err-show_body.ensures.reads)

pub returns-in_default-clause-moves_on : goal.returns-in_default-clause-moves_on
returns-in_default-clause-moves_on g c =
    MovesOn-then g.R.Read _ _ _ c.segments.invariant.moves_on c.advance.ensures.moves_on

pub returns-in_err-body-clause-moves_on : goal.returns-in_err-body-clause-moves_on
returns-in_err-body-clause-moves_on g c =
    MovesOn-then g.R.Read _ _ _ c.segments.invariant.moves_on c.advance.ensures.moves_on

pub returns-in_err-open-clause-moves_on : goal.returns-in_err-open-clause-moves_on
returns-in_err-open-clause-moves_on g c =
    MovesOn-then g.R.Read _ _ _ c.segments.invariant.moves_on c.advance.ensures.moves_on

pub returns-in_err-show_body-clause-moves_on : goal.returns-in_err-show_body-clause-moves_on
returns-in_err-show_body-clause-moves_on g c =
    MovesOn-then g.R.Read _ _ _ c.segments.invariant.moves_on
    (MovesOn-then g.R.Read _ _ _ c.advance.ensures.moves_on c.show_body.ensures.moves_on)

pub returns-in_default-clause-text : goal.returns-in_default-clause-text
returns-in_default-clause-text g c = λ opened mark range settled back.
    let none : c.in_ok-body.field-0 ≡ None = search rules in
    text_closed (string_spelling c.segments.segments) (c.segments.invariant.text opened range settled back)
    c.advance.new.self.decoder.now c.advance.ensures.moves_on.steady c.advance.new.self.progress true refl
    mark 64 c.close.result c.close.new.writer (rw none at c.in_ok-body.ensures.advances)
    (rw (any_mark c.args.quotes mark c.segments.is_first) at c.close.ensures.written)

pub returns-in_err-body-clause-text : goal.returns-in_err-body-clause-text
returns-in_err-body-clause-text g c = λ opened mark range settled back.
    rw (exit_is _ _ c.from_residual.ensures.1) (text_fails (string_spelling c.segments.segments)
    (c.segments.invariant.text opened range settled back) c.advance.new.self.decoder.now
    c.advance.ensures.moves_on.steady c.advance.new.self.progress true refl mark 64 _
    c.in_err-body.ensures.advances)

pub returns-in_err-open-clause-text : goal.returns-in_err-open-clause-text
returns-in_err-open-clause-text g c = λ opened mark range settled back.
    rw (exit_is _ _ c.from_residual-in_err-open.ensures.1) (text_unled (string_spelling c.segments.segments)
    (c.segments.invariant.text opened range settled back) c.advance.new.self.decoder.now
    c.advance.ensures.moves_on.steady c.advance.new.self.progress true refl c.in-Some.body
    (rw c.in-Some.is at c.in_ok-body.ensures.advances) mark 64 _ c.open.new.writer c.in_err-open.ensures.written)

pub returns-in_err-show_body-clause-text : goal.returns-in_err-show_body-clause-text
returns-in_err-show_body-clause-text g c = λ opened mark range settled back.
    rw (exit_is _ _ c.from_residual-in_err-show_body.ensures.1) (text_stops (string_spelling c.segments.segments)
    (c.segments.invariant.text opened range settled back) c.advance.new.self.decoder.now
    c.advance.ensures.moves_on.steady c.advance.new.self.progress true refl c.in-Some.body
    (rw c.in-Some.is at c.in_ok-body.ensures.advances) c.open.new.writer c.in_ok-open.ensures.written mark 64 _ _
    c.in_err-show_body.ensures.text)
