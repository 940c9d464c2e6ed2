use Rattle.ciborium_ll.specs.Strings.{Bytes, Text}
use Rattle.ciborium_ll.proofs.DecodingLaws.{MovesOn-none}
use Rattle.cbor_json.proofs.ItemReadLaws.{scalar_read, string_read}
use Rattle.cbor_json.proofs.ItemWriteLaws.{scalar_written, string_written}
use Rattle.cbor_json.proofs.ScalarLaws.{scalar_of}
use Rattle.cbor_json.proofs.plain.write_plain.Goals as goal

pub returns-in-Positive-clause-reads : goal.returns-in-Positive-clause-reads
returns-in-Positive-clause-reads g c = λ before outer depth pulled steady.
    scalar_read g.R.Read outer depth before c.args.decoder.now steady c.args.header c.said.result
    (scalar_of c.args.header c.in-Positive.is) pulled c.said.ensures.writing

pub returns-in-Positive-clause-written : goal.returns-in-Positive-clause-written
returns-in-Positive-clause-written g c = λ place.
    scalar_written g.R.Read g.W.Write c.args.role place c.args.header _ _ _ c.write_scalar.result c.said.result
    c.requires.has_json c.said.ensures.same c.write_scalar.ensures

pub returns-in-Positive-clause-moves_on : goal.returns-in-Positive-clause-moves_on
returns-in-Positive-clause-moves_on g c = MovesOn-none g.R.Read c.args.decoder.now

pub returns-in-Bytes-clause-reads : goal.returns-in-Bytes-clause-reads
returns-in-Bytes-clause-reads g c = λ before outer depth pulled steady.
    string_read g.R.Read outer depth before c.args.decoder.now steady Bytes c.in-Bytes.len c.write_bytes.new.decoder
    c.write_bytes.result (rw c.in-Bytes.is at pulled) c.write_bytes.ensures.reads

pub returns-in-Bytes-clause-written : goal.returns-in-Bytes-clause-written
returns-in-Bytes-clause-written g c = λ place.
    rw c.in-Bytes.is (string_written g.R.Read g.W.Write c.args.role place Bytes c.in-Bytes.len _ _
    c.write_bytes.result (rw c.in-Bytes.is at c.requires.has_json) c.write_bytes.ensures.written)

pub returns-in-Bytes-clause-moves_on : goal.returns-in-Bytes-clause-moves_on
returns-in-Bytes-clause-moves_on g c = c.write_bytes.ensures.moves_on

pub returns-in-Text-clause-reads : goal.returns-in-Text-clause-reads
returns-in-Text-clause-reads g c = λ before outer depth pulled steady.
    string_read g.R.Read outer depth before c.args.decoder.now steady Text c.in-Text.len c.write_text.new.decoder
    c.write_text.result (rw c.in-Text.is at pulled) c.write_text.ensures.reads

pub returns-in-Text-clause-written : goal.returns-in-Text-clause-written
returns-in-Text-clause-written g c = λ place.
    rw c.in-Text.is (string_written g.R.Read g.W.Write c.args.role place Text c.in-Text.len _ _
    c.write_text.result (rw c.in-Text.is at c.requires.has_json) c.write_text.ensures.written)

pub returns-in-Text-clause-moves_on : goal.returns-in-Text-clause-moves_on
returns-in-Text-clause-moves_on g c = c.write_text.ensures.moves_on
