use Rattle.std.proofs.Common.{rules, sym, ◌≡◌, ◌∙◌, ◌<◌, ◌^◌, None, length}
use Rattle.ciborium_ll_decoder.specs.Segments.{string_spelling}
use Rattle.ciborium_ll_decoder.proofs.DecodingLaws.{exit_is, nearer, MovesOn-then}
use Rattle.ciborium_ll_decoder.proofs.SkipLaws.{skips_end, skips_error, skips_body, skips_stop, found_rises}
use Rattle.ciborium_ll_decoder.proofs.skip.skip_segments.Goals as goal

pub returns-in_err-body-clause-skipped : goal.returns-in_err-body-clause-skipped
returns-in_err-body-clause-skipped g c = λ opened len range settled back meant.
    let error = c.in_err-body.field-0.0 in
    let same = exit_is c.from_residual.result error c.from_residual.ensures.1 in
    let advances = rw c.in_err-body.was at c.advance.ensures.advances in
    let less : c.advance.new.self.decoder.now.offset < 2 ^ 64 = search rules in
    rw same (skips_error g.R.Read g.P.Parser.kind (string_spelling c.segments.segments) len (length c.args.buffer.now)
    opened c.segments.segments.decoder.now c.advance.new.self.decoder.now c.segments.segments.progress
    c.advance.new.self.progress
    error less (c.segments.invariant.mode ∙ meant)
    (c.segments.invariant.so_far opened len range settled back meant) c.advance.ensures.moves_on.steady advances)

pub segments-smaller : goal.segments-smaller
segments-smaller g c =
    let some = c.in-Some.is in
    let advances = rw (c.in_ok-body.was, some) at c.advance.ensures.advances in
    let rises = found_rises g.R.Read g.P.Parser.kind (string_spelling c.segments.segments) c.segments.segments.progress
    c.advance.new.self.progress
    c.segments.segments.decoder.now c.advance.new.self.decoder.now c.in-Some.body advances in
    nearer c.segments.segments.decoder.now c.advance.new.self.decoder.now c.finish.new.self.decoder.now rises
    c.finish.ensures.moves_on.rises

pub segments-preserved : goal.segments-preserved
segments-preserved g c =
    let some = c.in-Some.is in
    let advances = rw (c.in_ok-body.was, some) at c.advance.ensures.advances in
    let reads = rw c.in_ok-finish.was at c.finish.ensures.finishes in
    record {
      same = search rules;
      mode = c.finish.ensures.mode ∙ (c.advance.ensures.mode ∙ c.segments.invariant.mode);
      so_far = λ opened len range settled back meant.
          skips_body g.R.Read g.P.Parser.kind (string_spelling c.segments.segments) len (length c.segments.buffer)
          opened
          c.segments.segments.decoder.now c.advance.new.self.decoder.now c.finish.new.self.decoder.now
          c.segments.segments.progress
          c.finish.new.self.progress c.in-Some.body (c.segments.invariant.mode ∙ meant)
          (c.segments.invariant.so_far opened len range settled back meant)
          c.advance.ensures.moves_on.steady c.finish.ensures.moves_on.steady
          (rw (sym c.finish.ensures.progress) at advances) reads;
      moves_on = MovesOn-then g.R.Read _ _ _ c.segments.invariant.moves_on
          (MovesOn-then g.R.Read _ _ _ c.advance.ensures.moves_on c.finish.ensures.moves_on);
    }

pub returns-in_err-finish-clause-skipped : goal.returns-in_err-finish-clause-skipped
returns-in_err-finish-clause-skipped g c = λ opened len range settled back meant.
    let error = c.in_err-finish.field-0.0 in
    let same = exit_is c.from_residual-in_err-finish.result error c.from_residual-in_err-finish.ensures.1 in
    let some = c.in-Some.is in
    let advances = rw (c.in_ok-body.was, some) at c.advance.ensures.advances in
    let stops = rw c.in_err-finish.was at c.finish.ensures.finishes in
    rw (same, sym c.segments.auto.buffer) (skips_stop g.R.Read g.P.Parser.kind (string_spelling c.segments.segments)
    len (length c.segments.buffer) opened
    c.segments.segments.decoder.now c.advance.new.self.decoder.now c.finish.new.self.decoder.now
    c.segments.segments.progress c.advance.new.self.progress c.in-Some.body error
    (c.segments.invariant.mode ∙ meant)
    (c.segments.invariant.so_far opened len range settled back meant) c.advance.ensures.moves_on.steady advances stops)

pub returns-clause-skipped : goal.returns-clause-skipped
returns-clause-skipped g c = λ opened len range settled back meant.
    let none : c.in_ok-body.field-0 ≡ None = search rules in
    let advances = rw (c.in_ok-body.was, none) at c.advance.ensures.advances in
    skips_end g.R.Read g.P.Parser.kind (string_spelling c.segments.segments) len (length c.args.buffer.now) opened
    c.segments.segments.decoder.now
    c.advance.new.self.decoder.now c.segments.segments.progress c.advance.new.self.progress
    (c.segments.invariant.mode ∙ meant)
    (c.segments.invariant.so_far opened len range settled back meant) c.advance.ensures.moves_on.steady advances
