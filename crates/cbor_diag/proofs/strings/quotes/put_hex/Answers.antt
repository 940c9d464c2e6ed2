use Rattle.std.proofs.Common.{ap, arith}
use Rattle.std.proofs.lemmas.List.{drop_more, drop_all, take_rest}
use Rattle.cbor_diag.specs.Notation.{bytes_notation}
use Rattle.cbor_diag.proofs.PassedLaws.{chunk_digits}
use Rattle.cbor_diag.proofs.QuoteLaws.{piece_more, piece_stops, pieces_end}
use Rattle.cbor_diag.proofs.strings.quotes.put_hex.Goals as goal

pub returns-in_err-put_group-in-Some : goal.returns-in_err-put_group-in-Some
returns-in_err-put_group-in-Some g c =
    let next = chunk_digits c.bytes.at 4 c.args.bytes.now c.in-Some.group.now c.bytes-test.true
    (rw (take_rest c.args.bytes.now c.bytes.at) at c.in-Some.ensures.cases) in
    piece_stops c.bytes.invariant.text _ _ _ c.from_residual.result next.1 c.from_residual.ensures.0
    c.in_err-put_group-in-Some.ensures

pub bytes-preserved-in-Some : goal.bytes-preserved-in-Some
bytes-preserved-in-Some g c =
    let next = chunk_digits c.bytes.at 4 c.args.bytes.now c.in-Some.group.now c.bytes-test.true
    (rw (take_rest c.args.bytes.now c.bytes.at) at c.in-Some.ensures.cases) in
    record {
      within = next.0;
      text = piece_more c.bytes.invariant.text next.1 c.in_ok-put_group-in-Some.ensures;
    }

pub returns-in_err-show_hex-in-None : goal.returns-in_err-show_hex-in-None
returns-in_err-show_hex-in-None g c =
    piece_stops c.bytes.invariant.text _ _ _ c.from_residual-in_err-show_hex-in-None.result
    (ap bytes_notation (drop_more c.args.bytes.now c.bytes.at _ c.bytes-test.true))
    c.from_residual-in_err-show_hex-in-None.ensures.0 c.in_err-show_hex-in-None.ensures

pub bytes-preserved : goal.bytes-preserved
bytes-preserved g c = record {
  within = omega (arith, c.bytes-test.true);
  text = piece_more c.bytes.invariant.text
      (ap bytes_notation (drop_more c.args.bytes.now c.bytes.at _ c.bytes-test.true))
      c.in_ok-show_hex-in-None.ensures;
}

pub returns : goal.returns
returns g c =
    pieces_end c.bytes.invariant.text
    (ap bytes_notation (drop_all c.bytes.at c.args.bytes.now (omega (arith, c.bytes-test.false))))
