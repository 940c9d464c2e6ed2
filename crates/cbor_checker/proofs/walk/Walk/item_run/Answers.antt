use Rattle.std.proofs.Common.{refl, arith, rules}
use Rattle.ciborium_ll_text.proofs.Lists.{rest_long}
use Rattle.cbor_checker.specs.Steps.{stay}
use Rattle.cbor_checker.proofs.LeadLaws.{run_more, run_room}
use Rattle.cbor_checker.proofs.walk.Walk.item_run.Goals as goal

pub items-init : goal.items-init
items-init c = record {
  within = omega arith;
  leads = stay;
  lent = (refl, refl);
  phase = c.requires.phase;
  due = c.requires.due;
  fresh = c.requires.fresh;
}

pub item_step-len-requires-clause-room : goal.item_step-len-requires-clause-room
item_step-len-requires-clause-room c =
    run_room c.args.bytes.now c.items.at _ _ _ c.items.invariant.within c.requires.room c.items.invariant.leads

pub returns-then-not-goes-clause-leads : goal.returns-then-not-goes-clause-leads
returns-then-not-goes-clause-leads c = run_more _ _ _ _ _ _ c.items.invariant.leads c.item_step-len.ensures.leads

pub items-preserved : goal.items-preserved
items-preserved c = record {
  within = omega (
    arith,
    rest_long c.args.bytes.now c.items.at,
    c.item_step-len.ensures.within,
    c.items.invariant.within,
  );
  leads = run_more _ _ _ _ _ _ c.items.invariant.leads c.item_step-len.ensures.leads;
  lent = search rules;
  phase = search rules;
  due = search rules;
  fresh = search rules;
}
