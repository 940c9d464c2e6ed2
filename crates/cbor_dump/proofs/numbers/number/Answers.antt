use Rattle.std.proofs.Common.{refl}
use Rattle.cbor_floats.specs.Floats.{with_point}
use Rattle.cbor_floats.proofs.FloatLaws.{finite_text}
use Rattle.cbor_dump.proofs.numbers.number.Goals as goal

pub returns-in-None : goal.returns-in-None
returns-in-None g c = λ plain ok.
    let digits = c.format_finite_with_plus.ensures in
    record {
      text = with_point c.format_finite_with_plus.result.now;
      is_text = finite_text c.args.value _ _ c.in-None.ensures digits.parses digits.layout digits.short refl;
      written = c.spelled.ensures plain ok;
    }
