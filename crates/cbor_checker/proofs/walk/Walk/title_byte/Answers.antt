use Rattle.std.proofs.Common.{rules}
use Rattle.cbor_checker.proofs.LeadLaws.{one_leads, title_one}
use Rattle.cbor_checker.proofs.walk.Walk.title_byte.Goals as goal

pub returns-clause-leads : goal.returns-clause-leads
returns-clause-leads c =
    one_leads c.args.bytes.now _ _ (λ i less. search rules) c.requires.some
    (title_one _ _ _ (search rules) c.title_step.ensures.spot)
