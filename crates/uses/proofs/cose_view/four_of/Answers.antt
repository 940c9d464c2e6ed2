use Rattle.std.proofs.Common.{rules, ◌≡◌, Some}
use Rattle.cbor_view.specs.Held.{elements_due}
use Rattle.uses.proofs.CoseViewLaws.{four_taken, no_array, no_four, one_fewer}
use Rattle.uses.proofs.cose_view.four_of.Goals as goal

pub returns-in_default : goal.returns-in_default
returns-in_default c = λ first second third fourth four.
    no_array c.args.item.now.bytes.now first second third fourth c.in_default.ensures four

pub returns-then-ne : goal.returns-then-ne
returns-then-ne c = λ first second third fourth four.
    let other : elements_due c.in-Some.items ≡ Some 4 → ⊥ = search rules in
    no_four c.args.item.now.bytes.now _ first second third fourth c.in-Some.items.due c.args.item.now.depth
    c.in-Some.ensures.0 other four

pub next_item-second-requires : goal.next_item-second-requires
next_item-second-requires c =
    let due : elements_due c.in-Some.items ≡ Some 4 = search rules in
    (2, one_fewer c.in-Some.items.due c.next_item-first.new.items.due 3 due c.next_item-first.ensures.counted)

pub next_item-third-requires : goal.next_item-third-requires
next_item-third-requires c =
    let due : elements_due c.in-Some.items ≡ Some 4 = search rules in
    let one = one_fewer c.in-Some.items.due c.next_item-first.new.items.due 3 due c.next_item-first.ensures.counted in (
      1,
      one_fewer c.next_item-first.new.items.due c.next_item-second.new.items.due 2 one
          c.next_item-second.ensures.counted,
    )

pub next_item-fourth-requires : goal.next_item-fourth-requires
next_item-fourth-requires c =
    let due : elements_due c.in-Some.items ≡ Some 4 = search rules in
    let one = one_fewer c.in-Some.items.due c.next_item-first.new.items.due 3 due c.next_item-first.ensures.counted in
    let two = one_fewer c.next_item-first.new.items.due c.next_item-second.new.items.due 2 one
    c.next_item-second.ensures.counted in (
      0,
      one_fewer c.next_item-second.new.items.due c.next_item-third.new.items.due 1 two
          c.next_item-third.ensures.counted,
    )

pub returns : goal.returns
returns c =
    let due : elements_due c.in-Some.items ≡ Some 4 = search rules in
    four_taken c.args.item.now.depth c.args.item.now.bytes.now c.in-Some.items c.next_item-first.new.items
    c.next_item-second.new.items c.next_item-third.new.items c.next_item-fourth.new.items c.next_item-first.result
    c.next_item-second.result c.next_item-third.result c.next_item-fourth.result c.in-Some.ensures.0 due
    c.next_item-first.ensures c.next_item-second.ensures c.next_item-third.ensures c.next_item-fourth.ensures
