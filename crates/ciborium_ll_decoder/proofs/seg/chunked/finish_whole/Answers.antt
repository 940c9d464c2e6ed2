use Rattle.std.proofs.Common.{rules, length}
use Rattle.ciborium_ll_decoder.proofs.DecodingLaws.{exit_is}
use Rattle.ciborium_ll_decoder.proofs.WholeBodyLaws.{unread_ends, damaged_ends}
use Rattle.ciborium_ll_decoder.proofs.seg.chunked.finish_whole.Goals as goal

pub returns-in_err-read-clause-finishes : goal.returns-in_err-read-clause-finishes
returns-in_err-read-clause-finishes g c =
    let error = c.in_err-read.field-0.0 in
    rw (exit_is c.from_residual.result error c.from_residual.ensures.1)
    (unread_ends g.R.Read g.P.Parser.kind c.args.body.length (length c.args.buffer.now) c.args.body.place
    c.args.decoder.now c.read.new.data c.read.new.self error c.requires.none_waits (search rules) (search rules)
    c.requires.held (search rules))

pub returns-else-is_body-clause-finishes : goal.returns-else-is_body-clause-finishes
returns-else-is_body-clause-finishes g c =
    damaged_ends g.R.Read g.P.Parser.kind c.args.body.length (length c.args.buffer.now) c.args.body.place
    c.args.decoder.now c.read.new.data c.read.new.self (search rules) c.requires.held (search rules) (search rules)
    (search rules)
