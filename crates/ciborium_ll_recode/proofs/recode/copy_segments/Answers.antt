use Rattle.std.proofs.Common.{refl, rules, sym, subst, ◌∙◌, ◌≡◌, ℕ, Some, None, Ok, Err, length}
use Rattle.ciborium_ll_decoder.specs.declared.dec.Decoder.{Decoder}
use Rattle.ciborium_ll_decoder.specs.declared.copy.RecodeError.TheVariants as r
use Rattle.ciborium_ll_decoder.specs.Decoding.{MovesOn}
use Rattle.ciborium_ll_decoder.specs.BodyCopies.{CopiesBody}
use Rattle.ciborium_ll_recode.specs.Recoding.{ReadsString, GoesOnWithin, Titled}
use Rattle.ciborium_ll_recode.specs.Sides.{sides_of}
use Rattle.ciborium_ll_decoder.proofs.DecodingLaws.{exit_is, nearer, MovesOn-none, MovesOn-then}
use Rattle.ciborium_ll_recode.proofs.CopyLaws.{through_encoder, header_stops}
use Rattle.ciborium_ll_decoder.proofs.SegmentLaws.{announced_rises}
use Rattle.ciborium_ll_recode.proofs.SegmentCopyLaws.{copied_opened, leads, segments_stop, segments_end, announced}
use Rattle.ciborium_ll_recode.proofs.SegmentCopyLaws.{segment_stops, segment_copied}
use Rattle.ciborium_ll_recode.proofs.recode.copy_segments.Goals as goal

pub segments-init : goal.segments-init
segments-init g c = record {
  same = search rules;
  mode = c.open_segments-segments.ensures.mode;
  so_far = copied_opened g.R.Read g.W.Write g.P.Parser.kind (sides_of c.args.decoder.now c.args.encoder.now)
      c.open_segments-segments.result.decoder.now c.open_segments-segments.result.progress c.requires.none_waits
      c.open_segments-segments.ensures.opened c.open_segments-segments.ensures.lent;
  moves_on = subst (λ (d : Decoder g.row.R.Denot). MovesOn g.R.Read c.args.decoder.now d)
      (sym c.open_segments-segments.ensures.lent) (MovesOn-none g.R.Read c.args.decoder.now);
  target = refl;
}

pub returns-clause-copied : goal.returns-clause-copied
returns-clause-copied g c =
    let none : c.in_ok-body.field-0 ≡ None = search rules in
    λ count before old within.
    subst (λ (d : Decoder g.row.R.Denot). ReadsString g.R.Read g.W.Write before g.P.Parser.kind old
    (sides_of d c.segments.encoder)) {x = c.advance.new.self.decoder.now} (search rules) (
    let k = g.P.Parser.kind in
    let so_far = c.segments.invariant.so_far in
    let all = leads g.R.Read g.W.Write k so_far _ c.segments.invariant.mode (Ok None) c.advance.new.self.progress
    c.advance.new.self.decoder.now (rw none at c.in_ok-body.ensures.advances) c.advance.ensures.moves_on.steady in
    segments_end g.R.Read g.W.Write k so_far within all
    )

pub returns-in_err-body-clause-copied : goal.returns-in_err-body-clause-copied
returns-in_err-body-clause-copied g c = λ count before old within.
    subst (λ (d : Decoder g.row.R.Denot). GoesOnWithin g.R.Read g.W.Write count before g.P.Parser.kind
    (length c.args.buffer.now) old c.from_residual.result (sides_of d c.segments.encoder))
    {x = c.advance.new.self.decoder.now} (search rules) (
    let k = g.P.Parser.kind in
    let so_far = c.segments.invariant.so_far in
    let error = c.in_err-body.field-0.0 in
    let same = exit_is c.from_residual.result (r.Read error) c.from_residual.ensures.1 in
    let all = leads g.R.Read g.W.Write k so_far _ c.segments.invariant.mode (Err error) c.advance.new.self.progress
    c.advance.new.self.decoder.now c.in_err-body.ensures.advances c.advance.ensures.moves_on.steady in
    rw same (segments_stop g.R.Read g.W.Write k so_far within (length c.args.buffer.now) error all)
    )

pub returns-in_err-write_header-clause-copied : goal.returns-in_err-write_header-clause-copied
returns-in_err-write_header-clause-copied g c = λ count before old within.
    subst (λ (d : Decoder g.row.R.Denot). GoesOnWithin g.R.Read g.W.Write count before g.P.Parser.kind
    (length c.args.buffer.now) old c.from_residual-in_err-write_header.result (sides_of d c.write_header.new.encoder))
    {x = c.advance.new.self.decoder.now} (search rules) (
    let k = g.P.Parser.kind in
    let so_far = c.segments.invariant.so_far in
    let same = exit_is c.from_residual-in_err-write_header.result c.in_err-write_header.field-0.0 c.from_residual-in_err-write_header.ensures.1 in
    let advances = rw c.in-Some.is at c.in_ok-body.ensures.advances in
    let all = leads g.R.Read g.W.Write k so_far _ c.segments.invariant.mode (Ok (Some c.in-Some.body))
    c.advance.new.self.progress c.advance.new.self.decoder.now advances c.advance.ensures.moves_on.steady in
    let stands = announced g.R.Read g.W.Write k so_far within all in
    let wrote = rw c.header.ensures at c.in_err-write_header.ensures.header in
    rw same (header_stops g.R.Read g.W.Write {room = length c.args.buffer.now} _ c.in_err-write_header.field-0.0
    c.write_header.new.encoder.writer (Titled _ k _ _ stands.reach) stands.copied wrote)
    )

pub segments-smaller : goal.segments-smaller
segments-smaller g c =
    let k = g.P.Parser.kind in
    let so_far = c.segments.invariant.so_far in
    let advances = rw c.in-Some.is at c.in_ok-body.ensures.advances in
    let all = leads g.R.Read g.W.Write k so_far _ c.segments.invariant.mode (Ok (Some c.in-Some.body))
    c.advance.new.self.progress c.advance.new.self.decoder.now advances c.advance.ensures.moves_on.steady in
    nearer c.segments.segments.decoder.now c.advance.new.self.decoder.now c.copy.new.self.decoder.now
    (announced_rises g.R.Read k so_far.bodies c.args.decoder.now _ _ c.in-Some.body _ all)
    c.in_ok-copy.ensures.moves_on.rises

pub segments-preserved : goal.segments-preserved
segments-preserved g c =
    let k = g.P.Parser.kind in
    let so_far = c.segments.invariant.so_far in
    let advances = rw c.in-Some.is at c.in_ok-body.ensures.advances in
    let all = leads g.R.Read g.W.Write k so_far _ c.segments.invariant.mode (Ok (Some c.in-Some.body))
    c.advance.new.self.progress c.advance.new.self.decoder.now advances c.advance.ensures.moves_on.steady in
    let titled = rw c.header.ensures at c.in_ok-write_header.ensures.header in
    let whole = through_encoder g.R.Read g.W.Write k c.in-Some.body.length (length c.segments.buffer)
    c.in-Some.body.place c.advance.new.self.decoder.now c.copy.new.self.decoder.now c.write_header.new.encoder
    c.copy.new.writer (Ok (tt {0})) c.in_ok-copy.ensures.copied in
    let advance = c.advance.ensures.moves_on in
    let copy = c.copy.ensures.moves_on in
    record {
      same = search rules;
      mode = c.copy.ensures.mode ∙ (c.advance.ensures.mode ∙ c.segments.invariant.mode);
      so_far = rw c.copy.ensures.progress (segment_copied g.R.Read g.W.Write k so_far c.requires.none_waits all titled
          whole copy.steady);
      moves_on = MovesOn-then g.R.Read _ _ _ c.segments.invariant.moves_on (MovesOn-then g.R.Read _ _ _ advance copy);
      target = c.copy.ensures.target ∙ (c.write_header.ensures.target ∙ c.segments.invariant.target);
    }

pub returns-in_err-copy-clause-copied : goal.returns-in_err-copy-clause-copied
returns-in_err-copy-clause-copied g c = λ count before old within.
    subst (λ (d : Decoder g.row.R.Denot). GoesOnWithin g.R.Read g.W.Write count before g.P.Parser.kind
    (length c.args.buffer.now) old c.from_residual-in_err-copy.result (sides_of d c.copy.new.writer))
    {x = c.copy.new.self.decoder.now} (search rules) (
    let k = g.P.Parser.kind in
    let so_far = c.segments.invariant.so_far in
    let same = exit_is c.from_residual-in_err-copy.result c.in_err-copy.field-0.0 c.from_residual-in_err-copy.ensures.1 in
    let advances = rw c.in-Some.is at c.in_ok-body.ensures.advances in
    let all = leads g.R.Read g.W.Write k so_far _ c.segments.invariant.mode (Ok (Some c.in-Some.body))
    c.advance.new.self.progress c.advance.new.self.decoder.now advances c.advance.ensures.moves_on.steady in
    let titled = rw c.header.ensures at c.in_ok-write_header.ensures.header in
    let error = c.in_err-copy.field-0.0 in
    let body = c.in-Some.body in
    let stops = subst (λ (room : ℕ). CopiesBody g.R.Read g.W.Write k body.length room body.place
    (sides_of c.advance.new.self.decoder.now c.write_header.new.encoder) (Err error)
    (sides_of c.copy.new.self.decoder.now c.copy.new.writer)) c.segments.auto.buffer
    (through_encoder g.R.Read g.W.Write k body.length (length c.segments.buffer) body.place
    c.advance.new.self.decoder.now c.copy.new.self.decoder.now c.write_header.new.encoder c.copy.new.writer
    (Err error) (rw c.in_err-copy.was at c.copy.ensures.copied)) in
    rw same (segment_stops g.R.Read g.W.Write k so_far within all (length c.args.buffer.now) _
    (sides_of c.copy.new.self.decoder.now c.copy.new.writer) error titled stops)
    )
