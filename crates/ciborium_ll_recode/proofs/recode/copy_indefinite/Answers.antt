use Rattle.std.proofs.Common.{length}
use Rattle.ciborium_ll_decoder.proofs.DecodingLaws.{exit_is}
use Rattle.ciborium_ll_recode.proofs.CopyLaws.{header_stops, opened_within, open_next, close_goes_on}
use Rattle.ciborium_ll_recode.proofs.recode.copy_indefinite.Goals as goal

pub returns-in_err-write_header-clause-copied : goal.returns-in_err-write_header-clause-copied
returns-in_err-write_header-clause-copied g c = λ count before old title t only behind.
    let wrote = rw c.header.ensures at c.in_err-write_header.ensures.header in
    rw (exit_is c.from_residual.result c.in_err-write_header.field-0.0 c.from_residual.ensures.1)
    (header_stops g.R.Read g.W.Write _ c.in_err-write_header.field-0.0 _
    (open_next g.R.Read g.W.Write behind g.P.Parser.kind t (length c.args.buffer.now)) behind.copied wrote)

pub returns-in_err-copy_segments-clause-copied : goal.returns-in_err-copy_segments-clause-copied
returns-in_err-copy_segments-clause-copied g c = λ count before old title t only behind.
    let same = exit_is c.from_residual-in_err-copy_segments.result c.in_err-copy_segments.field-0.0 c.from_residual-in_err-copy_segments.ensures.1 in
    let titled = rw c.header.ensures at c.in_ok-write_header.ensures.header in
    let copied = rw c.in_err-copy_segments.was at c.copy_segments.ensures.copied in
    rw same (copied count before old (opened_within g.R.Read g.W.Write behind g.P.Parser.kind t _ titled))

pub returns-clause-copied : goal.returns-clause-copied
returns-clause-copied g c = λ count before old title t only behind.
    let titled = rw c.header.ensures at c.in_ok-write_header.ensures.header in
    let copied = rw c.in_ok-copy_segments.was at c.copy_segments.ensures.copied in
    let string = copied count before old (opened_within g.R.Read g.W.Write behind g.P.Parser.kind t _ titled) in
    close_goes_on g.R.Read g.W.Write (length c.args.buffer.now) _ _ behind.due string
    c.write_header-2.ensures.header
