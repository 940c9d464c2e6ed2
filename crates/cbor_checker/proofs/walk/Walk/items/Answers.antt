use Rattle.cbor_checker.proofs.LeadLaws.{none_before, none_room}
use Rattle.cbor_checker.proofs.walk.Walk.items.Goals as goal

pub item_run-requires-clause-room : goal.item_run-requires-clause-room
item_run-requires-clause-room c =
    none_room c.args.bytes.now _ _ _ _ c.if-len-eq0.true c.requires.room c.plain_items-len.ensures.leads

pub returns-then-goes-clause-leads : goal.returns-then-goes-clause-leads
returns-then-goes-clause-leads c =
    none_before _ _ _ _ _ _ c.if-len-eq0.true c.plain_items-len.ensures.leads c.item_run.ensures.leads
