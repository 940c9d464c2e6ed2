use Rattle.std.proofs.Common.{ℕ, Option, length, List, ◌<◌, ◌++◌, ◌∙◌, ap, refl, sym, subst, arith, rules}
use Rattle.std.proofs.lemmas.Bool.Decides.{nat_tests}
use Rattle.ciborium_ll_text.proofs.Lists.{length_zero}
use Rattle.cbor_view.specs.Views.{HasPairs}
use Rattle.cbor_view.specs.Nexts.{CountsDown}
use Rattle.cbor_view.proofs.NestLaws.{key_there, value_there, pairs_due, pairs_done, pairs_left, pair_takes}
use Rattle.cbor_view.proofs.NestLaws.{counts_down, false_true}
use Rattle.cbor_view.proofs.nests.EntriesIterator.next.Goals as goal

pub returns-then-is_empty-clause-steps : goal.returns-then-is_empty-clause-steps
returns-then-is_empty-clause-steps c =
    let s = c.args.self.now in
    record {
      none_left = length_zero s.rest.now (grind (arith, nat_tests));
      counted = pairs_done s.depth s.due s.rest.now s.are (grind (arith, nat_tests));
      same = refl;
    }

pub unreachable-requires : goal.unreachable-requires
unreachable-requires c =
    let s = c.args.self.now in
    key_there s.depth s.due s.rest.now s.are (grind (arith, nat_tests))
    (λ f. false_true (c.in_default.ensures.exactly.1 f))

pub unreachable-requires-in_default-next_item : goal.unreachable-requires-in_default-next_item
unreachable-requires-in_default-next_item c =
    let s = c.args.self.now in
    value_there s.depth s.due s.rest.now c.in-Ok.key.bytes.now c.in-Ok.after.now s.are
    (grind (arith, nat_tests)) c.in-Ok.ensures.item c.in-Ok.ensures.whole
    (λ f. false_true (c.in_default-next_item.ensures.exactly.1 f))

pub one_less-self-requires : goal.one_less-self-requires
one_less-self-requires c =
    let s = c.args.self.now in pairs_due s.depth s.due s.rest.now s.are (grind (arith, nat_tests))

pub invariant_of-self : goal.invariant_of-self
invariant_of-self c =
    let s = c.args.self.now in
    record {
      shallow = s.shallow;
      are = subst (λ (due : Option ℕ). ∥ HasPairs s.depth due c.in-Ok-next_item.last.now ∥₁)
          (sym c.one_less-self.ensures)
          (pairs_left s.depth s.due s.rest.now c.in-Ok.key.bytes.now c.in-Ok-next_item.value.bytes.now
          c.in-Ok.after.now c.in-Ok-next_item.last.now s.are (grind (arith, nat_tests)) c.in-Ok.ensures.item
          c.in-Ok.ensures.whole c.in-Ok-next_item.ensures.item c.in-Ok-next_item.ensures.whole);
    }

pub returns-clause-steps : goal.returns-clause-steps
returns-clause-steps c =
    let s = c.args.self.now in
    record {
      whole = c.in-Ok.ensures.whole ∙ ap (λ (v : List ℕ). c.in-Ok.key.bytes.now ++ v) c.in-Ok-next_item.ensures.whole;
      is_key = c.in-Ok.ensures.item;
      is_value = c.in-Ok-next_item.ensures.item;
      key_levels = c.in-Ok.ensures.depth;
      value_levels = c.in-Ok-next_item.ensures.depth;
      counted = subst (λ (due : Option ℕ). CountsDown s.due due) (sym c.one_less-self.ensures)
          (counts_down s.due (pairs_due s.depth s.due s.rest.now s.are (grind (arith, nat_tests))));
      same_levels = refl;
    }

pub returns-clause-goes : goal.returns-clause-goes
returns-clause-goes c =
    let s = c.args.self.now in
    let shorter : length c.in-Ok-next_item.last.now < length s.rest.now =
    pair_takes s.depth s.rest.now c.in-Ok.key.bytes.now c.in-Ok-next_item.value.bytes.now c.in-Ok.after.now
    c.in-Ok-next_item.last.now c.in-Ok.ensures.item c.in-Ok.ensures.whole c.in-Ok-next_item.ensures.item
    c.in-Ok-next_item.ensures.whole in
    search rules
