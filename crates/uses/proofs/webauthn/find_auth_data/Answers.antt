use Rattle.uses.proofs.WebauthnLaws.{no_part}
use Rattle.uses.proofs.webauthn.find_auth_data.Goals as goal

pub returns-in_default : goal.returns-in_default
returns-in_default c = λ span part. c.in_default.ensures part.place part.value part.has_value

pub returns-in_default-byte_string : goal.returns-in_default-byte_string
returns-in_default-byte_string c =
    no_part _ _ _ _ _ _ c.in-Some.ensures.0 (λ span part. c.in_default-byte_string.ensures part.body part.is_string)
