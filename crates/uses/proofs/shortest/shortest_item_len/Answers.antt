use Rattle.std.proofs.Common.{rules, ℕ, length, ap, sym, arith, length-append, length-take-le}
use Rattle.uses.proofs.ShortestLaws.{spelled_none, spelled_more, shortest_in_front, no_shortest}
use Rattle.uses.proofs.ShortestLaws.{any_front, takes_some, split_rest}
use Rattle.uses.proofs.shortest.shortest_item_len.Goals as goal

pub elements-init : goal.elements-init
elements-init c = spelled_none _

pub elements-smaller : goal.elements-smaller
elements-smaller c =
    let len = c.in_ok-element.element in
    let rest = c.elements.rest.now in
    let one = c.in_ok-element.ensures.some in
    let some = takes_some len rest one.0 one.1 in
    omega (
      arith,
      some,
      ap length (split_rest len rest),
      length-append {A = ℕ},
      length-take-le len rest
          c.in_ok-element.ensures.within,
    )

pub elements-preserved : goal.elements-preserved
elements-preserved c =
    let one = c.in_ok-element.ensures.some in
    spelled_more _ c.elements.rest.now _ _ one.0 c.elements.invariant one.1
    (split_rest c.in_ok-element.element c.elements.rest.now)

pub returns : goal.returns
returns c =
    let front = c.skip_item.ensures.front c.args.bytes.now (search rules) (sym c.in_ok-ok.ensures.variant) in
    shortest_in_front _ c.args.bytes.now c.elements.rest.now c.offset-len.result (any_front _ _ _ front.front)
    (omega (arith, c.offset-len.ensures.value, front.offset, c.from-decoder.ensures.offset)) c.elements.invariant
    (search rules)

pub returns-in_err-element : goal.returns-in_err-element
returns-in_err-element c =
    let front = c.skip_item.ensures.front c.args.bytes.now (search rules) (sym c.in_ok-ok.ensures.variant) in
    rw c.from_residual-in_err-element.ensures (no_shortest _ c.args.bytes.now c.elements.rest.now c.offset-len.result
    (any_front _ _ _ front.front)
    (omega (arith, c.offset-len.ensures.value, front.offset, c.from-decoder.ensures.offset)) c.elements.invariant
    (search rules)
    c.in_err-element.ensures.none)
