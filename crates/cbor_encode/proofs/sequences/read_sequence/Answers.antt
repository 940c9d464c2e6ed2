use Rattle.std.proofs.Common.{◌+◌, zero, arith}
use Rattle.ciborium_ll_grammar.specs.Items.{no_items}
use Rattle.cbor_encode.proofs.ItemLaws.{items_more}
use Rattle.cbor_encode.proofs.sequences.read_sequence.Goals as goal

pub items-init : goal.items-init
items-init c = record {
  within = omega arith;
  items = record { count = zero; are = rw c.new-bytes.ensures.items no_items };
}

pub items-preserved : goal.items-preserved
items-preserved c = record {
  within = omega arith;
  items = record {
    count = c.items.invariant.items.count + 1;
    are = items_more _ c.args.depth c.items.invariant.items.count c.items.bytes.items
        c.put_item.new.out.items c.items.invariant.items.are c.in_ok-put_item.ensures.wrote;
  };
}
