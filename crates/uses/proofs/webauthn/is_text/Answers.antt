use Rattle.std.proofs.Common.{rules}
use Rattle.cbor_view.proofs.SearchLaws.{same_text}
use Rattle.uses.proofs.webauthn.is_text.Goals as goal

pub returns-in-Some : goal.returns-in-Some
returns-in-Some c = same_text _ _ _ _ c.in-Some.ensures (search rules)

pub returns-in-None : goal.returns-in-None
returns-in-None c = (λ yes. absurd cc, λ is. absurd (c.in-None.ensures c.args.text.now is))
