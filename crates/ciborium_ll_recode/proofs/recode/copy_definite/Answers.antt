use Rattle.std.proofs.Common.{rules, ap, subst, ◌∙◌, ◌≡◌, Some, length, arith}
use Rattle.ciborium_ll_decoder.proofs.DecodingLaws.{exit_is}
use Rattle.ciborium_ll_decoder.specs.declared.dec.Decoder.{Decoder}
use Rattle.ciborium_ll_recode.specs.Recoding.{GoesOn}
use Rattle.ciborium_ll_grammar.specs.Title.{title_len}
use Rattle.ciborium_ll_grammar.specs.Strings.{kind_header}
use Rattle.ciborium_ll_recode.specs.Sides.{sides_of}
use Rattle.ciborium_ll_recode.proofs.CopyLaws.{through_encoder, definite_goes_on, definite_next, header_stops}
use Rattle.ciborium_ll_recode.proofs.recode.copy_definite.Goals as goal

pub returns-in_err-write_header-clause-copied : goal.returns-in_err-write_header-clause-copied
returns-in_err-write_header-clause-copied g c = λ count before old title t taken behind.
    let same = exit_is c.from_residual.result c.in_err-write_header.field-0.0 c.from_residual.ensures.1 in
    let wrote = c.in_err-write_header.ensures.header in
    rw same (header_stops g.R.Read g.W.Write _ c.in_err-write_header.field-0.0 _
    (definite_next g.R.Read g.W.Write behind g.P.Parser.kind c.args.len (length c.args.buffer.now) t) behind.copied
    (rw c.header.ensures at wrote))

pub returns-clause-copied : goal.returns-clause-copied
returns-clause-copied g c = λ count before old title t taken behind.
    let k = g.P.Parser.kind in
    let lent = c.args.decoder.now in
    let titled = rw c.header.ensures at c.in_ok-write_header.ensures.header in
    let size : c.title_len.result ≡ title_len (kind_header k (Some c.args.len)) = c.title_len.ensures.value
    ∙ ap title_len c.header-2.ensures in
    let at : c.offset.result ≡ lent.offset = c.offset.ensures.value in
    let covered = c.requires.covered in
    -- The shortest title reaches from the body's place to the body, whatever place was given.
    let copied = rw c.offset.ensures.same at (through_encoder g.R.Read g.W.Write k c.args.len (length c.args.buffer.now)
    _ c.offset.new.self c.copy_body.new.decoder c.write_header.new.encoder c.copy_body.new.writer c.copy_body.result
    c.copy_body.ensures.copied) in
    subst (λ (d : Decoder g.row.R.Denot). GoesOn g.R.Read g.W.Write count before (length c.args.buffer.now) old
    c.copy_body.result (sides_of d c.copy_body.new.writer)) (search rules)
    (definite_goes_on g.R.Read g.W.Write behind k c.args.len (length c.args.buffer.now) t taken _
    (omega (arith, size, at, covered)) _ titled _ c.copy_body.result copied)
