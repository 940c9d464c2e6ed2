use Rattle.std.proofs.Common.{◌+◌, arith, length, length-drop, refl}
use Rattle.std.proofs.lemmas.Slice.{between_to_end}
use Rattle.cbor_deterministic.specs.Deterministic.{no_items}
use Rattle.tool_verdicts.proofs.DeterministicLaws.{all_exactly, all_whole, item_len, next_item, stops_there}
use Rattle.tool_verdicts.proofs.deterministic.check_all.Goals as goal

pub items-init : goal.items-init
items-init c = record { within = omega arith; are = no_items; few = omega arith }

pub overflow_add-start : goal.overflow_add-start
overflow_add-start c =
    let has = (c.in-Ok.ensures.exactly c.in-Ok.len).0 refl in
    omega (arith, c.items-test.true, has.enough, length-drop c.items.start c.args.bytes.now)

pub items-smaller : goal.items-smaller
items-smaller c =
    let has = (c.in-Ok.ensures.exactly c.in-Ok.len).0 refl in
    let there = rw (between_to_end c.args.bytes.now c.items.start (length c.args.bytes.now) (omega arith)) at has in
    let some = item_len c.args.order c.args.depth c.args.bytes.now c.items.start c.in-Ok.len there in
    omega (arith, c.items-test.true, some)

pub items-preserved : goal.items-preserved
items-preserved c =
    let has = (c.in-Ok.ensures.exactly c.in-Ok.len).0 refl in
    let there = rw (between_to_end c.args.bytes.now c.items.start (length c.args.bytes.now) (omega arith)) at has in
    let some = item_len c.args.order c.args.depth c.args.bytes.now c.items.start c.in-Ok.len there in
    record {
      within = omega (arith, c.items-test.true, has.enough, length-drop c.items.start c.args.bytes.now);
      are = next_item c.args.order c.args.depth c.args.bytes.now c.items.items c.items.start c.in-Ok.len
          c.items.invariant.are there;
      few = omega (arith, c.items.invariant.few, some);
    }

pub overflow_add-result : goal.overflow_add-result
overflow_add-result c =
    let has = (c.in-Err.ensures.refused c.in-Err.refusal.why c.in-Err.refusal.place).0 refl in
    omega (arith, c.items-test.true, has.sum, length-drop c.items.start c.args.bytes.now)

pub returns-in-Err : goal.returns-in-Err
returns-in-Err c =
    let has = (c.in-Err.ensures.refused c.in-Err.refusal.why c.in-Err.refusal.place).0 refl in
    let there = rw (between_to_end c.args.bytes.now c.items.start (length c.args.bytes.now) (omega arith)) at has in
    record {
      exactly = all_exactly c.args.order c.args.depth c.args.bytes.now _
          (stops_there c.args.order c.args.depth c.args.bytes.now c.items.items c.items.start c.in-Err.refusal.place
          (c.items.start + c.in-Err.refusal.place) c.in-Err.refusal.why c.items.invariant.are c.items-test.true there
          refl);
    }

pub returns : goal.returns
returns c = record {
  exactly = all_exactly c.args.order c.args.depth c.args.bytes.now _
      (all_whole c.args.order c.args.depth c.args.bytes.now c.items.items c.items.start c.items.invariant.are
      (omega (arith, c.items.invariant.within, c.items-test.false)));
}
