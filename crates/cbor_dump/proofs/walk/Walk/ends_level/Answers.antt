use Rattle.std.proofs.Common.{refl, sym, ◌∙◌, arith}
use Rattle.cbor_dump.proofs.WalkLaws.{end_outside, end_goes_on, end_of_level}
use Rattle.cbor_dump.proofs.walk.Walk.ends_level.Goals as goal

pub returns-then-self-eq0-clause-ends : goal.returns-then-self-eq0-clause-ends
returns-then-self-eq0-clause-ends c = λ allowed depth whole bytes behind.
    end_outside allowed depth whole c.args.self.now c.args.key bytes behind c.if-self-eq0.true

pub returns-then-not-is_done-clause-ends : goal.returns-then-not-is_done-clause-ends
returns-then-not-is_done-clause-ends c = λ allowed depth whole bytes behind.
    end_goes_on allowed depth whole c.args.self.now _ c.after_item-after.result c.next_index.result (record {
      counts = c.after_item-after.ensures;
      some = c.if-self-eq0.false;
      within = omega arith;
      written = refl;
      indexes = c.next_index.ensures;
      placed = refl;
      deep = refl;
    }) bytes behind (sym c.is_done-2.ensures ∙ c.if-not-is_done.true) refl

pub returns-clause-ends : goal.returns-clause-ends
returns-clause-ends c = λ allowed depth whole bytes behind.
    end_of_level allowed depth whole c.args.self.now _ c.after_item-after.result c.next_index.result (record {
      counts = c.after_item-after.ensures;
      some = c.if-self-eq0.false;
      within = omega arith;
      written = refl;
      indexes = c.next_index.ensures;
      placed = refl;
      deep = refl;
    }) c.args.key bytes behind (sym c.is_done-2.ensures ∙ c.if-not-is_done.false) refl
