use Rattle.std.proofs.Common.{refl, sym, ◌∙◌}
use Rattle.cbor_dump.proofs.WalkLaws.{break_outside, break_refused, break_closes}
use Rattle.cbor_dump.proofs.walk.Walk.close.Goals as goal

pub returns : goal.returns
returns c = λ allowed depth whole before due.
    break_closes allowed depth whole c.args.self.now _ before due c.if-self-eq0.false
    (sym c.closes.ensures ∙ c.if-not-closes.false) refl refl refl refl

pub returns-then-self-eq0 : goal.returns-then-self-eq0
returns-then-self-eq0 c = λ allowed depth whole before due. break_outside allowed depth whole c.args.self.now before due
    c.if-self-eq0.true

pub returns-then-not-closes : goal.returns-then-not-closes
returns-then-not-closes c = λ allowed depth whole before due.
    break_refused allowed depth whole c.args.self.now before due c.if-self-eq0.false (sym c.closes.ensures ∙
    c.if-not-closes.true)
