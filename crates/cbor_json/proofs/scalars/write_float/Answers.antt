use Rattle.std.proofs.Common.{codes, subst, sym}
use Rattle.cbor_json.specs.Scalars.{IsValueJson}
use Rattle.cbor_json.proofs.ScalarLaws.{null_text, unmarked}
use Rattle.cbor_json.proofs.scalars.write_float.Goals as goal

pub returns-then-not-is_finite : goal.returns-then-not-is_finite
returns-then-not-is_finite g c = record {
  text = codes "null";
  is_text = subst (λ v. IsValueJson v (codes "null")) c.float_value-value.ensures
      (null_text c.float_value-value.result (sym c.if-not-is_finite.ensures.value));
  written = c.put.ensures;
}

pub returns : goal.returns
returns g c =
    unmarked g.W.Write c.args.float c.float_value-value.result _ _ c.show_number.result c.float_value-value.ensures
    (sym c.if-not-is_finite.ensures.value) c.show_number.ensures
