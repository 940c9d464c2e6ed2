use Rattle.std.proofs.Common.{rules, refl}
use Rattle.ciborium_ll_text.proofs.FrontLaws.{IsFront-valid}
use Rattle.ciborium_ll_text.proofs.Utf8Laws.{to_std, from_std}
use Rattle.ciborium_ll_laws.proofs.text.text_or_front.Goals as goal

pub returns-in-Ok-clause-accepted : goal.returns-in-Ok-clause-accepted
returns-in-Ok-clause-accepted c = (λ accepted. from_std c.args.bytes.now c.in-Ok.ensures.cases.1, λ text. refl)

pub returns-in-Ok-from_utf8-clause-accepted : goal.returns-in-Ok-from_utf8-clause-accepted
returns-in-Ok-from_utf8-clause-accepted c =
    (λ accepted. absurd (cc accepted), λ text. absurd (c.in-Err.ensures.cases.0 (to_std c.args.bytes.now text)))

pub returns-in-Ok-from_utf8-clause-longest : goal.returns-in-Ok-from_utf8-clause-longest
returns-in-Ok-from_utf8-clause-longest c =
    let valid = rw (← c.valid_up_to.ensures) at c.in-Err.ensures.cases.1 in
    IsFront-valid c.args.bytes.now c.in-Ok-from_utf8.front.now c.valid_up_to.result
    c.in-Ok-from_utf8.ensures.cases.0 (search rules) valid
