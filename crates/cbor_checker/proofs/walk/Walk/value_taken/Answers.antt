use Rattle.std.proofs.Common.{refl, rules}
use Rattle.cbor_checker.proofs.ItemLeads.{plain_leads, value_item}
use Rattle.cbor_checker.proofs.walk.Walk.value_taken.Goals as goal

pub returns-clause-leads : goal.returns-clause-leads
returns-clause-leads c =
    plain_leads _ _ _ _ _ _ (rw c.requires.any (value_item c.args.bytes.now _ c.args.kind (λ i less. search rules)
    c.requires.value c.requires.more c.requires.within c.requires.long c.requires.kind)) c.requires.within
    c.requires.phase c.requires.fresh c.requires.due c.requires.fresh refl c.item_over.ensures.done
