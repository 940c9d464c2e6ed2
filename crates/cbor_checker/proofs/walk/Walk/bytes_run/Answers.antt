use Rattle.std.proofs.Common.{rules}
use Rattle.cbor_checker.proofs.LeadLaws.{bytes_lead}
use Rattle.cbor_checker.proofs.walk.Walk.bytes_run.Goals as goal

pub returns-clause-leads : goal.returns-clause-leads
returns-clause-leads c =
    bytes_lead c.args.bytes.now _ _ _ _ (λ i less. search rules) c.requires.phase (search rules) (search rules)
    (search rules) c.bytes_taken.ensures.spot
