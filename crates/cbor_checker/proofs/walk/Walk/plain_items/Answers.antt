use Rattle.std.proofs.Common.{◌≡◌, ℕ, ◌+◌, ◌-◌, List, [], ◌∷◌, take, sym, ap, subst, ◌∙◌, arith, rules}
use Rattle.std.proofs.lemmas.List.{length-take-le}
use Rattle.ciborium_ll_grammar.specs.declared.remaining.Remaining.{Remaining}
use Rattle.cbor_checker.specs.Plain.{lowered}
use Rattle.cbor_checker.specs.Spots.{Spot, item_done}
use Rattle.cbor_checker.specs.Stack.{others}
use Rattle.cbor_checker.specs.Steps.{Leads, stay}
use Rattle.cbor_checker.specs.Walking.{levels_at, spot_at}
use Rattle.cbor_checker.proofs.RunLaws.{run_ends, run_goes}
use Rattle.cbor_checker.proofs.walk.Walk.plain_items.Goals as goal

pub returns-then-is_empty-clause-leads : goal.returns-then-is_empty-clause-leads
returns-then-is_empty-clause-leads c = stay

pub returns-in_default-clause-leads : goal.returns-in_default-clause-leads
returns-in_default-clause-leads c =
    let s : Spot = spot_at c.args.self.now in
    subst (λ (z : List Remaining). Leads s [] (record s { levels = z })) (sym (ap levels_at c.innermost.ensures.same)) stay

pub returns-in_default-items_left-clause-leads : goal.returns-in_default-items_left-clause-leads
returns-in_default-items_left-clause-leads c =
    let s : Spot = spot_at c.args.self.now in
    subst (λ (z : List Remaining). Leads s [] (record s { levels = z })) (sym (ap levels_at c.innermost.ensures.same)) stay

pub returns-then-run-gt0-clause-leads : goal.returns-then-run-gt0-clause-leads
returns-then-run-gt0-clause-leads c =
    let s : Spot = spot_at c.args.self.now in
    let run = c.plain_run-run.result in
    let level : Remaining = c.in-Some.level in
    let bytes : List ℕ = take run.len c.args.bytes.now in
    let long = length-take-le run.len c.args.bytes.now c.plain_run-run.ensures.within in
    let same : levels_at c.innermost.new.self ≡ s.levels = ap levels_at c.innermost.ensures.same in
    let levels : levels_at c.replace.new.self ≡ lowered (run.left - 1) level ∷ others s.levels =
    c.replace.ensures.put ∙ (ap (λ (z : Remaining). z ∷ others (levels_at c.innermost.new.self)) c.lowered.ensures
    ∙ ap (λ (z : List Remaining). lowered (run.left - 1) level ∷ others z) same) in
    let new : List Remaining → ℕ → Spot = λ z len.
    record s { levels = z; place = c.plain_run-run.new.place; offset = s.offset + len } in
    subst (λ (z : List Remaining). Leads s bytes (new z run.len)) (sym levels)
    (subst (λ (z : ℕ). Leads s bytes (new (lowered (run.left - 1) level ∷ others s.levels) z)) long
    (run_goes s level _ c.in-Some-items_left.left c.requires.phase c.requires.fresh c.requires.due
    (search rules) (search rules) (search rules) c.plain_run-run.new.place bytes run.left c.if-run-gt0.true c.plain_run-run.ensures.most
    c.plain_run-run.ensures.plain))

pub returns-clause-leads : goal.returns-clause-leads
returns-clause-leads c =
    let s : Spot = spot_at c.args.self.now in
    let run = c.plain_run-run.result in
    let left : ℕ = c.in-Some-items_left.left in
    let bytes : List ℕ = take run.len c.args.bytes.now in
    let long = length-take-le run.len c.args.bytes.now c.plain_run-run.ensures.within in
    let levels : levels_at c.pop.new.self ≡ others s.levels =
    c.pop.ensures.taken ∙ ap others (ap levels_at c.innermost.ensures.same) in
    let new : List Remaining → ℕ → Spot = λ z len.
    record s { depth = s.depth + 1; levels = z; place = c.plain_run-run.new.place; offset = s.offset + len } in
    subst (Leads s bytes) (sym (c.item_over.ensures.done ∙ (ap (λ (z : List Remaining). item_done (new z run.len)) levels
    ∙ ap (λ (z : ℕ). item_done (new (others s.levels) z)) (sym long))))
    (run_ends s c.in-Some.level _ left c.requires.phase c.requires.fresh c.requires.due (search rules)
    (search rules) (search rules) c.plain_run-run.new.place bytes (left + 1 - run.left) (omega (arith, c.if-run-gt0.false))
    c.plain_run-run.ensures.plain)
