use Rattle.std.proofs.Common.{sym, ap, ◌∙◌}
use Rattle.cbor_dump.specs.Walks.{place_of}
use Rattle.cbor_dump.proofs.WalkLaws.{place_index, place_outside, place_value}
use Rattle.cbor_dump.proofs.walk.Walk.within.Goals as goal

pub returns-then-self-eq0 : goal.returns-then-self-eq0
returns-then-self-eq0 c = λ allowed depth whole before due.
    place_outside allowed depth whole c.args.self.now before due c.if-self-eq0.true

pub returns-then-is_value : goal.returns-then-is_value
returns-then-is_value c = λ allowed depth whole before due.
    place_value allowed depth whole c.args.self.now before due c.if-self-eq0.false
    (sym c.is_value.ensures ∙ c.if-is_value.true)

pub returns-in-Some : goal.returns-in-Some
returns-in-Some c = λ allowed depth whole before due.
    place_index allowed depth whole c.args.self.now before _ due c.if-self-eq0.false
    (sym c.is_value.ensures ∙ c.if-is_value.false) (ap place_of (sym c.in-Some.is))

pub returns-in-None : goal.returns-in-None
returns-in-None c = λ allowed depth whole before due.
    place_index allowed depth whole c.args.self.now before _ due c.if-self-eq0.false
    (sym c.is_value.ensures ∙ c.if-is_value.false) (ap place_of (sym c.in-None.is))
