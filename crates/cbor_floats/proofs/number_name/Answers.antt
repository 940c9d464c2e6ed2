use Rattle.std.proofs.Common.{sym, ◌∙◌}
use Rattle.cbor_floats.proofs.FloatLaws.{nan_text, minus_text, plus_text}
use Rattle.cbor_floats.proofs.number_name.Goals as goal

pub returns-then-is_nan : goal.returns-then-is_nan
returns-then-is_nan c = nan_text c.args.value (sym c.is_nan.ensures.value ∙ c.if-is_nan.true)

pub returns-then-is_sign_negative : goal.returns-then-is_sign_negative
returns-then-is_sign_negative c =
    minus_text c.args.value (sym c.is_nan.ensures.value ∙ c.if-is_nan.false)
    (sym c.is_finite.ensures.value ∙ c.if-is_finite.false) (sym c.is_sign_negative.ensures ∙ c.if-is_sign_negative.true)

pub returns-else-is_sign_negative : goal.returns-else-is_sign_negative
returns-else-is_sign_negative c =
    plus_text c.args.value (sym c.is_nan.ensures.value ∙ c.if-is_nan.false)
    (sym c.is_finite.ensures.value ∙ c.if-is_finite.false)
    (sym c.is_sign_negative.ensures ∙ c.if-is_sign_negative.false)
