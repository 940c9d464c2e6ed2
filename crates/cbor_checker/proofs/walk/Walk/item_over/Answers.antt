use Rattle.std.proofs.Common.{add-one, sym, ◌∙◌}
use Rattle.cbor_checker.specs.Walking.{spot_at}
use Rattle.cbor_checker.proofs.walk.Walk.item_over.Goals as goal

pub levels-preserved : goal.levels-preserved
levels-preserved c =
    let known = c.levels.invariant in
    let lent = c.advance.ensures.lent in
    let less = c.advance.ensures.done c.if-advance.false c.levels.self.depth (spot_at c.args.self.now) in
    record {
      same = rw add-one (sym less ∙ known.same);
      phase = known.phase;
      within = known.within;
      spelling = known.spelling;
      front = known.front;
      place = known.place;
      offset = known.offset;
      lent = (lent.0 ∙ known.lent.0, lent.1 ∙ known.lent.1);
    }
