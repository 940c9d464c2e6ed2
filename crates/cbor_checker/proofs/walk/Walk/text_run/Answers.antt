use Rattle.std.proofs.Common.{◌≤◌, take, length, length-take, rules, arith}
use Rattle.std.proofs.lemmas.List.{length-take-le}
use Rattle.ciborium_ll_text.specs.declared.state.State.TheVariants as s
use Rattle.cbor_checker.proofs.LeadLaws.{between_ends, front_long, front_state, one_leads, text_leads, text_one}
use Rattle.cbor_checker.proofs.LeadLaws.{whole_state}
use Rattle.cbor_checker.proofs.walk.Walk.text_run.Goals as goal

pub returns-then-may_end-clause-leads : goal.returns-then-may_end-clause-leads
returns-then-may_end-clause-leads c =
    let state = c.text_front-behind.ensures in
    text_leads c.args.bytes.now _ _ s.Between _ _ _ (λ i less. search rules) c.requires.phase (search rules)
    (search rules) (search rules) (whole_state _ c.text_front-behind.result.0.now _ state.front state.state)
    (search rules) c.text_taken.ensures.spot

pub returns-then-whole-gt0-clause-leads : goal.returns-then-whole-gt0-clause-leads
returns-then-whole-gt0-clause-leads c =
    let front = c.text_front-behind.result.0.now in
    let known = c.text_front-behind.ensures.front in
    let long = front_long (take c.min-len.result c.args.bytes.now) front known in
    let in_all : c.min-len.result ≤ length c.args.bytes.now = search rules in
    let in_left : c.min-len.result ≤ c.args.left = search rules in
    let all = length-take-le c.min-len.result c.args.bytes.now in_all in
    text_leads c.args.bytes.now (length front) _ s.Between s.Between _ _ (λ i less. search rules) c.requires.phase
    c.if-whole-gt0.true (omega (arith, long, all, in_all)) (omega (arith, long, all, in_left))
    (front_state _ front _ in_all known) (between_ends _) c.text_taken-then-whole-gt0.ensures.spot

pub returns-clause-leads : goal.returns-clause-leads
returns-clause-leads c =
    one_leads c.args.bytes.now _ _ (λ i less. search rules) c.requires.some
    (text_one _ s.Between _ _ _ c.requires.phase (search rules) c.text_step.ensures.spot)

pub returns-then-whole-gt0-clause-within : goal.returns-then-whole-gt0-clause-within
returns-then-whole-gt0-clause-within c =
    let all = take c.min-len.result c.args.bytes.now in
    let long = front_long all c.text_front-behind.result.0.now c.text_front-behind.ensures.front in
    omega (arith, long, length-take c.min-len.result c.args.bytes.now)
