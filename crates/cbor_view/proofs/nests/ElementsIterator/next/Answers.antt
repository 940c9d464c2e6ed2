use Rattle.std.proofs.Common.{ℕ, Option, length, ◌<◌, refl, sym, subst, arith, rules}
use Rattle.std.proofs.lemmas.Bool.Decides.{nat_tests}
use Rattle.ciborium_ll_text.proofs.Lists.{length_zero}
use Rattle.cbor_view.specs.Views.{HasItems}
use Rattle.cbor_view.specs.Nexts.{CountsDown}
use Rattle.cbor_view.proofs.NestLaws.{items_there, items_due, items_done, items_left, item_takes, counts_down}
use Rattle.cbor_view.proofs.NestLaws.{false_true}
use Rattle.cbor_view.proofs.nests.ElementsIterator.next.Goals as goal

pub returns-then-is_empty-clause-steps : goal.returns-then-is_empty-clause-steps
returns-then-is_empty-clause-steps c =
    let s = c.args.self.now in
    record {
      none_left = length_zero s.rest.now (grind (arith, nat_tests));
      counted = items_done s.depth s.due s.rest.now s.are (grind (arith, nat_tests));
      same = refl;
    }

pub unreachable-requires : goal.unreachable-requires
unreachable-requires c =
    let s = c.args.self.now in
    items_there s.depth s.due s.rest.now s.are (grind (arith, nat_tests))
    (λ f. false_true (c.in_default.ensures.exactly.1 f))

pub one_less-self-requires : goal.one_less-self-requires
one_less-self-requires c =
    let s = c.args.self.now in items_due s.depth s.due s.rest.now s.are (grind (arith, nat_tests))

pub invariant_of-self : goal.invariant_of-self
invariant_of-self c =
    let s = c.args.self.now in
    record {
      shallow = s.shallow;
      are = subst (λ (due : Option ℕ). ∥ HasItems s.depth due c.in-Ok.rest.now ∥₁) (sym c.one_less-self.ensures)
          (items_left s.depth s.due s.rest.now c.in-Ok.item.bytes.now c.in-Ok.rest.now s.are
          (grind (arith, nat_tests)) c.in-Ok.ensures.item c.in-Ok.ensures.whole);
    }

pub returns-clause-steps : goal.returns-clause-steps
returns-clause-steps c =
    let s = c.args.self.now in
    record {
      whole = c.in-Ok.ensures.whole;
      is_item = c.in-Ok.ensures.item;
      levels = c.in-Ok.ensures.depth;
      counted = subst (λ (due : Option ℕ). CountsDown s.due due) (sym c.one_less-self.ensures)
          (counts_down s.due (items_due s.depth s.due s.rest.now s.are (grind (arith, nat_tests))));
      same_levels = refl;
    }

pub returns-clause-goes : goal.returns-clause-goes
returns-clause-goes c =
    let s = c.args.self.now in
    let shorter : length c.in-Ok.rest.now < length s.rest.now =
    item_takes s.depth s.rest.now c.in-Ok.item.bytes.now c.in-Ok.rest.now c.in-Ok.ensures.item
    c.in-Ok.ensures.whole in
    search rules
