use Rattle.std.proofs.Common.{refl, sym, ◌∙◌, arith}
use Rattle.cbor_dump.proofs.WalkLaws.{deepest, enters_empty, enters_within}
use Rattle.cbor_dump.proofs.walk.Walk.enter.Goals as goal

pub returns-then-self : goal.returns-then-self
returns-then-self c = λ allowed depth whole before title due p g.
    deepest allowed depth whole c.args.self.now before due c.if-self.true

pub returns-then-is_done : goal.returns-then-is_done
returns-then-is_done c = λ allowed depth whole before title due p g.
    enters_empty allowed depth whole _ before title c.args.header c.behind-remaining.result due p g
    (omega arith) c.if-self.false
    c.behind-remaining.ensures (sym c.is_done.ensures ∙ c.if-is_done.true)

pub returns : goal.returns
returns c = λ allowed depth whole before title due p g.
    enters_within allowed depth whole c.args.self.now _ before title c.args.header c.behind-remaining.result
    c.first_index.result due p g
    (omega arith)
    (omega arith) c.if-self.false c.behind-remaining.ensures (sym c.is_done.ensures ∙ c.if-is_done.false)
    c.first_index.ensures refl refl refl refl
