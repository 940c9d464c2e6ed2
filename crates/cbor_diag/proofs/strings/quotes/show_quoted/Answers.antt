use Rattle.std.proofs.Common.{◌≡◌, ◌∙◌, ◌+◌, ◌-◌, ap, arith, sym}
use Rattle.std.proofs.lemmas.List.{drop_more, drop_all, take_rest}
use Rattle.cbor_diag.specs.Passing.{passed_held, passed_text}
use Rattle.cbor_diag.proofs.PassedLaws.{digits_passed, held_same, passed_front}
use Rattle.cbor_diag.proofs.QuoteLaws.{piece_more, piece_stops, pieces_end}
use Rattle.cbor_diag.proofs.strings.quotes.show_quoted.Goals as goal

pub returns-in_err-put-clause-written : goal.returns-in_err-put-clause-written
returns-in_err-put-clause-written g c =
    let xs = c.args.bytes.now in
    let at = c.bytes.at in
    let len = c.plain_len-len.result in
    let some = c.if-len-gt0.true in
    let next = passed_front c.args.quotes c.bytes.held at len xs
    (rw (take_rest xs at) at (c.plain_len-len.ensures.text some))
    (rw (take_rest xs at) at (c.plain_len-len.ensures.held some)) in
    let count : at + len - at ≡ len = omega arith in
    piece_stops c.bytes.invariant.text _ _ _ c.from_residual.result next.0 c.from_residual.ensures.0
    (rw count at c.in_err-put.ensures)

pub bytes-preserved-then-len-gt0 : goal.bytes-preserved-then-len-gt0
bytes-preserved-then-len-gt0 g c =
    let xs = c.args.bytes.now in
    let at = c.bytes.at in
    let len = c.plain_len-len.result in
    let some = c.if-len-gt0.true in
    let next = passed_front c.args.quotes c.bytes.held at len xs
    (rw (take_rest xs at) at (c.plain_len-len.ensures.text some))
    (rw (take_rest xs at) at (c.plain_len-len.ensures.held some)) in
    let count : at + len - at ≡ len = omega arith in
    record {
      within = omega (arith, c.plain_len-len.ensures.within);
      text = piece_more c.bytes.invariant.text next.0 (rw count at c.in_ok-put.ensures);
      held = sym next.1 ∙ c.bytes.invariant.held;
    }

pub returns-in_err-show_byte-clause-written : goal.returns-in_err-show_byte-clause-written
returns-in_err-show_byte-clause-written g c =
    let next = drop_more c.args.bytes.now c.bytes.at _ (omega (arith, c.bytes-test.true)) in
    piece_stops c.bytes.invariant.text _ _ _ c.from_residual-in_err-show_byte.result
    (ap (passed_text c.args.quotes c.bytes.held) next) c.from_residual-in_err-show_byte.ensures.0
    c.in_err-show_byte.ensures

pub bytes-preserved : goal.bytes-preserved
bytes-preserved g c =
    let next = drop_more c.args.bytes.now c.bytes.at _ (omega (arith, c.bytes-test.true)) in
    record {
      within = omega (arith, c.bytes-test.true);
      text = rw c.hold.ensures (piece_more c.bytes.invariant.text (ap (passed_text c.args.quotes c.bytes.held) next)
          c.in_ok-show_byte.ensures);
      held = rw c.hold.ensures (sym (ap (passed_held c.args.quotes c.bytes.held) next) ∙ c.bytes.invariant.held);
    }

pub returns-clause-written : goal.returns-clause-written
returns-clause-written g c =
    pieces_end c.bytes.invariant.text (ap (passed_text c.args.quotes c.bytes.held)
    (drop_all c.bytes.at c.args.bytes.now (omega arith)))

pub returns-in-Hex-clause-written : goal.returns-in-Hex-clause-written
returns-in-Hex-clause-written g c =
    rw (c.in-Hex.is, digits_passed c.args.held.now c.args.bytes.now) c.put_hex.ensures

pub returns-in-Hex-clause-held : goal.returns-in-Hex-clause-held
returns-in-Hex-clause-held g c = held_same c.args.quotes c.args.held.now c.args.bytes.now c.put_hex.result c.in-Hex.is
