use Rattle.uses.proofs.WebauthnLaws.{no_part}
use Rattle.uses.proofs.webauthn.find_format.Goals as goal

pub returns-in_default : goal.returns-in_default
returns-in_default c = λ span part. c.in_default.ensures part.place part.value part.has_value

pub returns-in_default-text : goal.returns-in_default-text
returns-in_default-text c =
    no_part _ _ _ _ _ _ c.in-Some.ensures.0 (λ span part. c.in_default-text.ensures part.body part.is_string)
