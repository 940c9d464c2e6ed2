use Rattle.std.proofs.Common.{refl, arith, rules}
use Rattle.ciborium_ll_text.proofs.Lists.{rest_long}
use Rattle.cbor_checker.specs.Steps.{stay}
use Rattle.cbor_checker.proofs.LeadLaws.{run_more, run_room}
use Rattle.cbor_checker.proofs.walk.Walk.run_all.Goals as goal

pub runs-init : goal.runs-init
runs-init c = record { within = omega arith; leads = stay; lent = (refl, refl) }

pub run-at-requires-clause-room : goal.run-at-requires-clause-room
run-at-requires-clause-room c =
    run_room c.args.bytes.now c.runs.at _ _ _ c.runs.invariant.within c.requires c.runs.invariant.leads

pub runs-preserved : goal.runs-preserved
runs-preserved c = record {
  within = omega (arith, rest_long c.args.bytes.now c.runs.at, c.run-at.ensures.within, c.runs.invariant.within);
  leads = run_more _ _ _ _ _ _ c.runs.invariant.leads c.run-at.ensures.leads;
  lent = search rules;
}

pub overflow_add-at : goal.overflow_add-at
overflow_add-at c =
    omega (arith, rest_long c.args.bytes.now c.runs.at, c.run-at.ensures.within, c.runs.invariant.within, c.requires)
