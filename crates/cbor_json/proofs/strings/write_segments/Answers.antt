use Rattle.ciborium_ll.specs.Sides.{sides}
use Rattle.ciborium_ll.specs.Skipping.{SkipsString}
use Rattle.cbor_json.proofs.ReadingLaws.{string_whole}
use Rattle.cbor_json.proofs.StringLaws.{string_closed, string_stops, string_unwritten}
use Rattle.cbor_json.proofs.strings.write_segments.Goals as goal

pub returns-in-Err-Read-clause-reads : goal.returns-in-Err-Read-clause-reads
returns-in-Err-Read-clause-reads g c = λ opened len range settled back meant.
    rw c.in-Err-Read.error-is
    (rw c.in-Err-Read.field-0-is at (c.in-Err-Read.ensures.reads opened len range settled back meant))

pub returns-in-Err-Read-clause-written : goal.returns-in-Err-Read-clause-written
returns-in-Err-Read-clause-written g c = λ opened len opening before range settled back opens.
    rw c.in-Err-Read.error-is (string_stops g.P.Parser.kind c.args.quotes len opening 64 opens c.in-Err-Read.error
    c.copy_quoted.new.held (sides c.copy_quoted.new.segments.decoder.now c.copy_quoted.new.writer)
    (rw c.in-Err-Read.field-0-is at (c.in-Err-Read.ensures.copied opened len range settled back)))

pub returns-in-Err-Write-clause-written : goal.returns-in-Err-Write-clause-written
returns-in-Err-Write-clause-written g c = λ opened len opening before range settled back opens.
    string_unwritten g.P.Parser.kind c.args.quotes len opening 64 opens c.in-Err-Write.fault
    c.copy_quoted.new.held (sides c.copy_quoted.new.segments.decoder.now c.copy_quoted.new.writer)
    (rw c.in-Err-Write.field-0-is at (c.in-Err-Write.ensures.copied opened len range settled back))

pub returns-clause-reads : goal.returns-clause-reads
returns-clause-reads g c = λ opened len range settled back meant.
    string_whole (λ answer. SkipsString g.R.Read g.P.Parser.kind len 64 opened answer
    c.copy_quoted.new.segments.decoder.now) c.said.result
    (c.in-Ok.ensures.reads opened len range settled back meant) c.said.ensures.writing

pub returns-clause-written : goal.returns-clause-written
returns-clause-written g c = λ opened len opening before range settled back opens.
    string_closed g.P.Parser.kind c.args.quotes len opening 64 opens c.requires.kind
    c.copy_quoted.new.held c.copy_quoted.new.segments.decoder.now c.copy_quoted.new.writer
    (c.in-Ok.ensures.copied opened len range settled back) _ c.close.result c.said.result c.said.ensures.same
    c.close.ensures
