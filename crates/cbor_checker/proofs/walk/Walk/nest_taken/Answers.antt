use Rattle.std.proofs.Common.{◌≡◌, ◌+◌, ◌-◌, ◌≤◌, List, ◌∷◌, length, sym, ap, subst, take, ◌∙◌, arith, rules}
use Rattle.ciborium_ll_text.proofs.Lists.{rest_long}
use Rattle.ciborium_ll_grammar.specs.declared.remaining.Remaining.{Remaining}
use Rattle.cbor_checker.specs.Plain.{lowered}
use Rattle.cbor_checker.specs.Spots.{Spot}
use Rattle.cbor_checker.specs.Steps.{Leads}
use Rattle.cbor_checker.specs.Walking.{levels_at, spot_at}
use Rattle.cbor_checker.proofs.RunLaws.{nest_ends, nest_goes}
use Rattle.cbor_checker.proofs.walk.Walk.nest_taken.Goals as goal

pub returns-then-run-gt0-clause-leads : goal.returns-then-run-gt0-clause-leads
returns-then-run-gt0-clause-leads c =
    let s : Spot = spot_at c.args.self.now in
    let xs = c.args.bytes.now in
    let run = c.plain_run-run.result in
    let place = c.plain_run-run.new.place in
    let within : run.len ≤ length xs - 1 = omega (arith, rest_long xs 1, c.plain_run-run.ensures.within) in
    let levels : levels_at c.push.new.self ≡ lowered (run.left - 1) c.args.nest.level ∷ s.levels =
    c.push.ensures.pushed ∙ ap (λ (z : Remaining). z ∷ s.levels) c.lowered.ensures in
    subst (λ (z : List Remaining). Leads s (take (1 + run.len) xs)
    (record s { depth = s.depth - 1; levels = z; place = place; offset = s.offset + 1 + run.len })) (sym levels)
    (nest_goes s _ _ _ place run.len xs c.requires.phase c.requires.fresh c.requires.due c.requires.deep within
    c.requires.enters c.requires.left (search rules) c.requires.some run.left c.if-run-gt0.true c.plain_run-run.ensures.most
    c.plain_run-run.ensures.plain)

pub returns-clause-leads : goal.returns-clause-leads
returns-clause-leads c =
    let xs = c.args.bytes.now in
    let run = c.plain_run-run.result in
    let within : run.len ≤ length xs - 1 = omega (arith, rest_long xs 1, c.plain_run-run.ensures.within) in
    subst (Leads (spot_at c.args.self.now) (take (1 + run.len) xs)) (sym c.item_over.ensures.done)
    (nest_ends _ _ _ c.args.nest.left _ run.len xs c.requires.phase c.requires.fresh c.requires.due c.requires.deep within
    c.requires.enters c.requires.left (search rules) c.requires.some _ (omega (arith, c.if-run-gt0.false))
    c.plain_run-run.ensures.plain)
