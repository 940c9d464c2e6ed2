use Rattle.std.proofs.Common.{ℕ, List, [], Some, Err, refl, subst}
use Rattle.ciborium_ll.specs.Finishing.{EndsBody}
use Rattle.ciborium_ll.proofs.DecodingLaws.{exit_is, MovesOn-none}
use Rattle.cbor_diag.specs.Showing.{ShowsText}
use Rattle.cbor_diag.proofs.BodyShowLaws.{body_closed, body_stops, body_unopened, body_unshown}
use Rattle.cbor_diag.proofs.ShowLaws.{string_unread}
use Rattle.cbor_diag.proofs.strings.definite.show_alone.Goals as goal

pub returns-in_err-say-clause-text : goal.returns-in_err-say-clause-text
returns-in_err-say-clause-text g c =
    let error = c.in_err-say.field-0.0 in
    rw (exit_is _ _ c.from_residual.ensures.1) (body_unopened g.R.Read g.W.Write g.P.Parser.kind c.args.quotes
    c.args.body.length 64 c.args.body.place c.args.decoder.now c.args.writer.now error c.say.new.writer
    (subst (λ (z : List ℕ). ShowsText g.W.Write (Some z) c.args.writer.now (Err error) c.say.new.writer)
    c.opening.ensures c.in_err-say.ensures.written))

pub returns-in-Err-Read-clause-text : goal.returns-in-Err-Read-clause-text
returns-in-Err-Read-clause-text g c =
    rw c.in-Err-Read.error-is (body_stops g.R.Read g.W.Write g.P.Parser.kind c.args.quotes c.args.body.length 64
    c.args.body.place c.args.decoder.now c.args.writer.now
    (rw c.opening.ensures at c.in_ok-say.ensures.written) _ c.copy_alone.new.writer c.in-Err-Read.error
    (rw c.in-Err-Read.field-0-is at c.in-Err-Read.ensures.copied))

pub returns-in-Err-Write-clause-text : goal.returns-in-Err-Write-clause-text
returns-in-Err-Write-clause-text g c =
    body_unshown g.R.Read g.W.Write g.P.Parser.kind c.args.quotes c.args.body.length 64 c.args.body.place
    c.args.decoder.now c.args.writer.now (rw c.opening.ensures at c.in_ok-say.ensures.written) _
    c.copy_alone.new.writer c.in-Err-Write.fault (rw c.in-Err-Write.field-0-is at c.in-Err-Write.ensures.copied)

pub returns-clause-text : goal.returns-clause-text
returns-clause-text g c =
    body_closed g.R.Read g.W.Write g.P.Parser.kind c.args.quotes c.args.body.length 64 c.args.body.place
    c.args.decoder.now c.args.writer.now (rw c.opening.ensures at c.in_ok-say.ensures.written) _
    c.copy_alone.new.writer c.say-2.result c.say-2.new.writer c.in-Ok.ensures.copied
    (rw c.closing.ensures at c.say-2.ensures.written)

pub returns-in_err-say-clause-reads : goal.returns-in_err-say-clause-reads
returns-in_err-say-clause-reads g c =
    rw (exit_is _ _ c.from_residual.ensures.1) (string_unread (λ answer. EndsBody g.R.Read g.P.Parser.kind []
    c.args.body.length 64 c.args.body.place c.args.decoder.now answer c.args.decoder.now) _
    c.in_err-say.ensures.writing)

pub returns-in_err-say-clause-moves_on : goal.returns-in_err-say-clause-moves_on
returns-in_err-say-clause-moves_on g c = MovesOn-none g.R.Read c.args.decoder.now
