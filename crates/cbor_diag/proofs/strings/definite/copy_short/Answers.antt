use Rattle.std.proofs.Common.{◌<◌, arith, length, rules}
use Rattle.ciborium_ll.specs.Types.RecodeError.TheVariants as r
use Rattle.ciborium_ll.proofs.DecodingLaws.{exit_is}
use Rattle.cbor_diag.proofs.BodyShowLaws.{unescaped_whole, short_damaged, short_refused, short_shown, short_stops, short_unshown}
use Rattle.cbor_diag.proofs.strings.definite.copy_short.Goals as goal

pub returns-in_err-read_short-clause-copied : goal.returns-in_err-read_short-clause-copied
returns-in_err-read_short-clause-copied g c =
    let error = c.in_err-read_short.field-0.0 in
    rw (exit_is c.from_residual.result (r.Read error) c.from_residual.ensures.1) (short_stops g.R.Read g.W.Write
    g.P.Parser.kind c.args.quotes c.args.body.length 64 c.args.body.place c.args.decoder.now c.read_short.new.decoder
    c.args.writer.now c.requires.kind error c.requires.short c.in_err-read_short.ensures.reads)

pub returns-then-rest-gt-MOST_KEPT-clause-copied : goal.returns-then-rest-gt-MOST_KEPT-clause-copied
returns-then-rest-gt-MOST_KEPT-clause-copied g c =
    let bytes = c.read_short.new.bytes in
    let front = c.shown_front-front.result.now in
    let cut : length front < length bytes = omega (arith, c.if-rest-gt-MOST_KEPT.true) in
    short_refused g.R.Read g.W.Write g.P.Parser.kind c.args.quotes c.args.body.length 64 c.args.body.place
    c.args.decoder.now c.read_short.new.decoder c.args.writer.now c.requires.kind bytes front c.args.writer.now
    c.in_ok-read_short.ensures.reads.0 c.in_ok-read_short.ensures.reads.1
    (c.shown_front-front.ensures.front g.P.Parser.kind c.requires.kind) cut c.requires.short

pub returns-in-Err-clause-copied : goal.returns-in-Err-clause-copied
returns-in-Err-clause-copied g c =
    let bytes = c.read_short.new.bytes in
    let whole = unescaped_whole g.P.Parser.kind c.args.quotes bytes c.requires.kind (search rules)
    (c.are_unescaped.ensures.0 c.if-are_unescaped.true) in
    short_unshown g.R.Read g.W.Write g.P.Parser.kind c.args.quotes c.args.body.length 64 c.args.body.place
    c.args.decoder.now c.read_short.new.decoder c.args.writer.now c.requires.kind bytes bytes c.put.new.writer
    c.in_ok-read_short.ensures.reads.0 c.in_ok-read_short.ensures.reads.1 whole.0 c.in-Err.fault (omega arith)
    (rw whole.1 c.in-Err.ensures)

pub returns-in-Ok-clause-copied : goal.returns-in-Ok-clause-copied
returns-in-Ok-clause-copied g c =
    let bytes = c.read_short.new.bytes in
    let whole = unescaped_whole g.P.Parser.kind c.args.quotes bytes c.requires.kind (search rules)
    (c.are_unescaped.ensures.0 c.if-are_unescaped.true) in
    short_shown g.R.Read g.W.Write g.P.Parser.kind c.args.quotes c.args.body.length 64 c.args.body.place
    c.args.decoder.now c.read_short.new.decoder c.args.writer.now c.requires.kind bytes bytes c.put.new.writer
    c.in_ok-read_short.ensures.reads.0 c.in_ok-read_short.ensures.reads.1 whole.0 (omega arith)
    (rw whole.1 c.in-Ok.ensures)

pub returns-in-Err-show_quoted-clause-copied : goal.returns-in-Err-show_quoted-clause-copied
returns-in-Err-show_quoted-clause-copied g c =
    short_unshown g.R.Read g.W.Write g.P.Parser.kind c.args.quotes c.args.body.length 64 c.args.body.place
    c.args.decoder.now c.read_short.new.decoder c.args.writer.now c.requires.kind c.read_short.new.bytes
    c.shown_front-front.result.now c.show_quoted.new.writer c.in_ok-read_short.ensures.reads.0
    c.in_ok-read_short.ensures.reads.1 (c.shown_front-front.ensures.front g.P.Parser.kind c.requires.kind)
    c.in-Err-show_quoted.fault c.if-rest-gt-MOST_KEPT.false c.in-Err-show_quoted.ensures.written

pub returns-in-Ok-show_quoted-clause-copied : goal.returns-in-Ok-show_quoted-clause-copied
returns-in-Ok-show_quoted-clause-copied g c =
    let bytes = c.read_short.new.bytes in
    let front = c.shown_front-front.result.now in
    let cut : length front < length bytes = omega (arith, c.if-rest-gt0.true) in
    short_damaged g.R.Read g.W.Write g.P.Parser.kind c.args.quotes c.args.body.length 64 c.args.body.place
    c.args.decoder.now c.read_short.new.decoder c.args.writer.now c.requires.kind bytes front c.show_quoted.new.writer
    c.in_ok-read_short.ensures.reads.0 c.in_ok-read_short.ensures.reads.1
    (c.shown_front-front.ensures.front g.P.Parser.kind c.requires.kind) cut c.if-rest-gt-MOST_KEPT.false
    c.requires.short c.in-Ok-show_quoted.ensures.written

pub returns-in-Ok-2-clause-copied : goal.returns-in-Ok-2-clause-copied
returns-in-Ok-2-clause-copied g c =
    short_shown g.R.Read g.W.Write g.P.Parser.kind c.args.quotes c.args.body.length 64 c.args.body.place
    c.args.decoder.now c.read_short.new.decoder c.args.writer.now c.requires.kind c.read_short.new.bytes
    c.shown_front-front.result.now c.show_quoted.new.writer c.in_ok-read_short.ensures.reads.0
    c.in_ok-read_short.ensures.reads.1 (c.shown_front-front.ensures.front g.P.Parser.kind c.requires.kind)
    (omega (arith, c.if-rest-gt0.false)) c.in-Ok-2.ensures.written
