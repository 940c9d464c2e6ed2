use Rattle.std.proofs.Common.{arith}
use Rattle.cbor_deterministic.proofs.ViewLaws.{key_there, value_there, pairs_left}
use Rattle.cbor_deterministic.proofs.view.Entries.next.Goals as goal

pub unreachable-requires : goal.unreachable-requires
unreachable-requires c =
    key_there c.args.self.now.depth c.args.self.now.due c.args.self.now.rest.now c.in_default.field-0.why
    c.in_default.field-0.left c.args.self.now.are (omega arith) c.in_default.ensures.fails

pub unreachable-requires-in_default-next_item : goal.unreachable-requires-in_default-next_item
unreachable-requires-in_default-next_item c =
    value_there c.args.self.now.depth c.args.self.now.due c.args.self.now.rest.now c.in-Ok.key.bytes.now
    c.in-Ok.after.now c.in_default-next_item.field-0.why c.in_default-next_item.field-0.left c.args.self.now.are
    (omega arith) c.in-Ok.ensures.item c.in-Ok.ensures.whole
    c.in_default-next_item.ensures.fails

pub invariant_of-self : goal.invariant_of-self
invariant_of-self c = record {
  are = pairs_left c.args.self.now.depth c.args.self.now.due c.args.self.now.rest.now c.in-Ok.key.bytes.now
      c.in-Ok-next_item.value.bytes.now c.in-Ok.after.now c.in-Ok-next_item.last.now c.args.self.now.are
      (omega arith) c.in-Ok.ensures.item c.in-Ok.ensures.whole c.in-Ok-next_item.ensures.item
      c.in-Ok-next_item.ensures.whole;
}
