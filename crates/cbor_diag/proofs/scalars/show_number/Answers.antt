use Rattle.ciborium_ll.proofs.EncodingLaws.{WritesBytes-stopped, WritesBytes-then}
use Rattle.cbor_floats.specs.Floats.{with_point}
use Rattle.cbor_floats.proofs.FloatLaws.{finite_text}
use Rattle.cbor_diag.proofs.scalars.show_number.Goals as goal

pub returns-in-Some : goal.returns-in-Some
returns-in-Some g c = record {
  text = c.as_bytes.result.now;
  is_text = rw c.as_bytes.ensures.value c.in-Some.ensures;
  written = c.put_two.ensures;
}

pub returns-in_err-show_digits : goal.returns-in_err-show_digits
returns-in_err-show_digits g c =
    let digits = c.format_finite_with_plus.ensures in
    record {
      text = with_point c.as_bytes-2.result.now;
      is_text = finite_text c.args.value _ _ c.in_default.ensures digits.parses digits.layout digits.short
          c.as_bytes-2.ensures.value;
      written = WritesBytes-stopped g.W.Write _ _ c.from_residual.result _ c.args.mark.now
          c.from_residual.ensures.0 c.in_err-show_digits.ensures;
    }

pub returns : goal.returns
returns g c =
    let digits = c.format_finite_with_plus.ensures in
    record {
      text = with_point c.as_bytes-2.result.now;
      is_text = finite_text c.args.value _ _ c.in_default.ensures digits.parses digits.layout digits.short
          c.as_bytes-2.ensures.value;
      written = WritesBytes-then g.W.Write _ _ _ c.put.result _ c.args.mark.now c.in_ok-show_digits.ensures
          c.put.ensures;
    }
