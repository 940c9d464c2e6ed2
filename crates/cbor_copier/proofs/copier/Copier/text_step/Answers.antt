use Rattle.std.proofs.Common.{◌∙◌, [], ◌∷◌, length, sym, ap, length-append, arith}
use Rattle.cbor_copier.proofs.FrontLaws.{text_room, text_some}
use Rattle.cbor_copier.proofs.copier.Copier.text_step.Goals as goal

pub invariant_of-self-in_default-clause-some : goal.invariant_of-self-in_default-clause-some
invariant_of-self-in_default-clause-some c =
    text_some c.step-state.result c.saturating_sub-left.result (sym c.may_end.ensures ∙ c.if-not-may_end.false)
    c.in_default.not-Between

pub invariant_of-self-in_default-clause-room : goal.invariant_of-self-in_default-clause-room
invariant_of-self-in_default-clause-room c =
    let front = c.take-front.result in
    let may = rw c.step-state.ensures at (sym c.may_end.ensures ∙ c.if-not-may_end.false) in
    let room = text_room c.args.state c.args.byte c.saturating_sub-left.result (length front)
    (rw c.take-front.ensures.taken c.requires.front) may
    (λ between. c.in_default.not-Between (c.step-state.ensures ∙ between)) in
    let long = ap length c.push.ensures in
    rw c.step-state.ensures (omega (arith, room, long, length-append front (c.args.byte ∷ [])))
