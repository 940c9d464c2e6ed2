use Rattle.ciborium_ll.proofs.DecodingLaws.{exit_is}
use Rattle.cbor_diag.specs.Marks.{mark_text}
use Rattle.cbor_diag.proofs.NextLaws.{chunk_said, chunk_stops, chunk_unled}
use Rattle.cbor_diag.proofs.strings.chunks.show_chunk.Goals as goal

pub returns-in_err-open-clause-text : goal.returns-in_err-open-clause-text
returns-in_err-open-clause-text g c =
    rw (exit_is _ _ c.from_residual.ensures.1) (chunk_unled g.R.Read g.W.Write g.P.Parser.kind c.args.body.length 64
    c.args.body.place c.args.is_first (mark_text c.args.mark) c.args.decoder.now c.args.writer.now _ c.open.new.writer
    c.in_err-open.ensures.written)

pub returns-in_err-show_alone-clause-text : goal.returns-in_err-show_alone-clause-text
returns-in_err-show_alone-clause-text g c =
    rw (exit_is _ _ c.from_residual-in_err-show_alone.ensures.1) (chunk_stops g.R.Read g.W.Write g.P.Parser.kind
    c.args.body.length 64 c.args.body.place c.args.is_first (mark_text c.args.mark) c.args.decoder.now
    c.args.writer.now c.requires.kind c.in_ok-open.ensures.written _ _ c.in_err-show_alone.ensures.text)

pub returns-clause-text : goal.returns-clause-text
returns-clause-text g c =
    chunk_said g.R.Read g.W.Write g.P.Parser.kind c.args.body.length 64 c.args.body.place c.args.is_first
    (mark_text c.args.mark) c.args.decoder.now c.args.writer.now c.requires.kind c.in_ok-open.ensures.written
    c.say_mark.result c.show_alone.new.decoder c.show_alone.new.writer c.say_mark.new.writer
    c.in_ok-show_alone.ensures.text c.say_mark.ensures.written
