use Rattle.std.proofs.Common.{rules, ◌≡◌, ◌∙◌, Err, inl, refl, sym, ap, arith, length, length-append}
use Rattle.ciborium_ll.proofs.DecodingLaws.{exit_is, MovesOn-none, MovesOn-then}
use Rattle.ciborium_ll.specs.Decoding.{spelling_of}
use Rattle.ciborium_ll.specs.Segments.{string_spelling}
use Rattle.uses.specs.declared.texts.TextError.TheVariants as t
use Rattle.uses.proofs.TextLaws.{as_strict, gathered_none, gathered_more, goes_on, body_fails}
use Rattle.uses.proofs.TextLaws.{body_lacks}
use Rattle.uses.proofs.texts.read_segments.Goals as goal

pub segments-init : goal.segments-init
segments-init g c = record {
  same = refl;
  mode = c.requires.mode;
  so_far = gathered_none g.R.Read _ _ _ c.requires.empty;
  within = search rules;
  moves_on = MovesOn-none g.R.Read c.args.segments.now.decoder.now;
}

pub returns-in_default-clause-gathers : goal.returns-in_default-clause-gathers
returns-in_default-clause-gathers g c =
    let so_far = c.segments.invariant.so_far in
    record {
      bodies = so_far.bodies;
      whole = so_far.whole;
      few = omega (arith, c.segments-test.true, so_far.counted);
      ends = goes_on g.R.Read (string_spelling c.segments.segments) _ _ _ _ _ c.advance.new.self.progress _ _ _
          c.segments.invariant.mode so_far
          (rw c.in_default.is at c.in_ok-body.ensures.advances) c.in_ok-body.ensures.opens
          c.in_ok-body.ensures.moves_on;
    }

pub returns-in_err-body-clause-stops : goal.returns-in_err-body-clause-stops
returns-in_err-body-clause-stops g c =
    let same = exit_is c.from_residual.result (t.Read c.in_err-body.field-0.0) c.from_residual.ensures.1 in
    let so_far = c.segments.invariant.so_far in
    rw same (inl (record {
      bodies = so_far.bodies;
      fails = goes_on g.R.Read (string_spelling c.segments.segments) _ _ _ _ _ c.advance.new.self.progress _ _ _
          c.segments.invariant.mode so_far
          c.in_err-body.ensures.advances c.in_err-body.ensures.opens c.in_err-body.ensures.moves_on;
    }))

pub returns-then-body-limit-clause-stops : goal.returns-then-body-limit-clause-stops
returns-then-body-limit-clause-stops g c =
    let so_far = c.segments.invariant.so_far in
    let counted = ap length so_far.whole in
    inl (record {
      bodies = so_far.bodies;
      body = c.in-Some.body;
      goes_on = goes_on g.R.Read (string_spelling c.segments.segments) _ _ _ _ _ c.advance.new.self.progress _ _ _
          c.segments.invariant.mode so_far
          (rw c.in-Some.is at c.in_ok-body.ensures.advances) c.in_ok-body.ensures.opens c.in_ok-body.ensures.moves_on;
      too_long = omega (arith, c.if-body-limit.true, c.len.ensures, c.segments.invariant.within, counted);
    })

pub returns-in-Err-Read-clause-stops : goal.returns-in-Err-Read-clause-stops
returns-in-Err-Read-clause-stops g c =
    let copied = rw c.in-Err-Read.field-0-is at c.in-Err-Read.ensures.copied in
    let so_far = c.segments.invariant.so_far in
    body_fails g.R.Read c.args.limit c.args.segments.now.progress c.args.segments.now.decoder.now so_far.bodies
    c.in-Some.body c.advance.new.self.decoder.now c.copy.new.self.decoder.now
    (goes_on g.R.Read (string_spelling c.segments.segments) _ _ _ _ _ c.advance.new.self.progress _ _ _
    c.segments.invariant.mode so_far
    (rw c.in-Some.is at c.in_ok-body.ensures.advances) c.in_ok-body.ensures.opens c.in_ok-body.ensures.moves_on)
    c.in-Err-Read.error _ (length c.segments.buffer) c.in-Err-Read.error-is (search rules) copied.ends

pub returns-in-Err-Write-clause-stops : goal.returns-in-Err-Write-clause-stops
returns-in-Err-Write-clause-stops g c =
    let copied = rw c.in-Err-Write.field-0-is at c.in-Err-Write.ensures.copied in
    let so_far = c.segments.invariant.so_far in
    body_lacks g.R.Read c.args.limit c.args.segments.now.progress c.args.segments.now.decoder.now so_far.bodies
    c.in-Some.body c.advance.new.self.decoder.now c.copy.new.self.decoder.now
    (goes_on g.R.Read (string_spelling c.segments.segments) _ _ _ _ _ c.advance.new.self.progress _ _ _
    c.segments.invariant.mode so_far
    (rw c.in-Some.is at c.in_ok-body.ensures.advances) c.in_ok-body.ensures.opens c.in_ok-body.ensures.moves_on)
    _ (length c.segments.buffer) c.segments.text c.copy.new.writer (search rules) copied

pub segments-preserved : goal.segments-preserved
segments-preserved g c =
    let copied = c.in-Ok.ensures.copied in
    let kept = c.segments.invariant in
    let advance = c.in_ok-body.ensures.moves_on in
    let copy = c.in-Ok.ensures.moves_on in
    let advanced = rw (c.in-Some.is, sym c.in-Ok.ensures.progress) at c.in_ok-body.ensures.advances in
    let opens = rw (sym c.in-Ok.ensures.progress) at c.in_ok-body.ensures.opens in
    let appended = copied.written.appended in
    let counted = ap length appended in
    record {
      same = search rules;
      mode = c.in-Ok.ensures.mode ∙ (c.in_ok-body.ensures.mode ∙ kept.mode);
      so_far = gathered_more g.R.Read _ _ _ _ c.copy.new.writer.bytes.items _ c.segments.segments.decoder.now
          c.advance.new.self.decoder.now c.copy.new.self.decoder.now c.in-Some.body kept.so_far
          (as_strict g.R.Read (string_spelling c.segments.segments) (spelling_of c.args.segments.now.decoder.now) _
          c.copy.new.self.progress
          _ _ _ kept.mode advanced opens advance)
          copied.ends appended;
      within = omega (
        arith,
        counted,
        copied.ends.all,
        c.if-body-limit.false,
        c.len.ensures,
        kept.within,
        length-append c.segments.text.bytes.items copied.ends.read,
      );
      moves_on = MovesOn-then g.R.Read _ _ _ kept.moves_on (MovesOn-then g.R.Read _ _ _ advance copy);
    }

pub returns-clause-gathers : goal.returns-clause-gathers
returns-clause-gathers g c = search rules
