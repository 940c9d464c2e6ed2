use Rattle.std.proofs.Common.{rules}
use Rattle.ciborium_ll_grammar.specs.Strings.{Bytes, Text}
use Rattle.ciborium_ll_decoder.proofs.DecodingLaws.{exit_is}
use Rattle.cbor_skip.proofs.ItemSteps.{reads_plain, reads_string}
use Rattle.cbor_skip.proofs.StartSteps.{string_stops, value_start}
use Rattle.cbor_skip.proofs.after.begin_after.Goals as goal

pub returns-in-Positive-clause-begun : goal.returns-in-Positive-clause-begun
returns-in-Positive-clause-begun g c = λ before pulled moves depth.
    reads_plain g.R.Read pulled moves.steady (value_start c.args.header (search rules))

pub returns-in_ok-skip_bytes-in-Bytes-clause-begun : goal.returns-in_ok-skip_bytes-in-Bytes-clause-begun
returns-in_ok-skip_bytes-in-Bytes-clause-begun g c = λ before pulled moves depth.
    reads_string g.R.Read Bytes c.in-Bytes.len (rw c.in-Bytes.is at pulled) moves.steady
    c.in_ok-skip_bytes-in-Bytes.ensures.skipped

pub returns-in_ok-skip_text-in-Text-clause-begun : goal.returns-in_ok-skip_text-in-Text-clause-begun
returns-in_ok-skip_text-in-Text-clause-begun g c = λ before pulled moves depth.
    reads_string g.R.Read Text c.in-Text.len (rw c.in-Text.is at pulled) moves.steady
    c.in_ok-skip_text-in-Text.ensures.skipped

pub returns-in_err-skip_bytes-in-Bytes-clause-begun : goal.returns-in_err-skip_bytes-in-Bytes-clause-begun
returns-in_err-skip_bytes-in-Bytes-clause-begun g c = λ before pulled moves.
    let residual = c.from_residual in
    let same = exit_is residual.result c.in_err-skip_bytes-in-Bytes.field-0.0 residual.ensures.1 in
    rw same (string_stops g.R.Read Bytes c.in-Bytes.len (rw c.in-Bytes.is at pulled) moves.steady
    c.in_err-skip_bytes-in-Bytes.ensures.skipped)

pub returns-in_err-skip_text-in-Text-clause-begun : goal.returns-in_err-skip_text-in-Text-clause-begun
returns-in_err-skip_text-in-Text-clause-begun g c = λ before pulled moves.
    let residual = c.from_residual-in_err-skip_text-in-Text in
    let same = exit_is residual.result c.in_err-skip_text-in-Text.field-0.0 residual.ensures.1 in
    rw same (string_stops g.R.Read Text c.in-Text.len (rw c.in-Text.is at pulled) moves.steady
    c.in_err-skip_text-in-Text.ensures.skipped)
