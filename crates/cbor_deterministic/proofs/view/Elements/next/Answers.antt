use Rattle.std.proofs.Common.{arith}
use Rattle.cbor_deterministic.proofs.ViewLaws.{items_left, items_go_on}
use Rattle.cbor_deterministic.proofs.view.Elements.next.Goals as goal

pub invariant_of-self : goal.invariant_of-self
invariant_of-self c = record {
  are = items_left c.args.self.now.depth c.args.self.now.due c.args.self.now.rest.now c.in-Ok.rest.now
      c.args.self.now.are (omega arith)
      (record { front = c.in-Ok.item.bytes.now; is = c.in-Ok.ensures.item; whole = c.in-Ok.ensures.whole });
}

pub unreachable-requires : goal.unreachable-requires
unreachable-requires c =
    items_go_on c.args.self.now.depth c.args.self.now.due c.args.self.now.rest.now c.in_default.field-0.why
    c.in_default.field-0.left c.args.self.now.are (omega arith) c.in_default.ensures.fails
