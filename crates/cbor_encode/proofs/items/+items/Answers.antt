use Rattle.std.proofs.Common.{◌≡◌, ◌-◌, suc, Some, None, refl, arith, length}
use Rattle.ciborium_ll_grammar.specs.declared.hdr.Header.TheVariants as h
use Rattle.ciborium_ll_grammar.specs.Items.{byte_string, no_items}
use Rattle.cbor_encode.proofs.ItemLaws.{completed, tag_completes, array_completes, map_completes, open_array_completes}
use Rattle.cbor_encode.proofs.ItemLaws.{open_map_completes, items_more, pairs_more}
use Rattle.cbor_encode.proofs.items.+items.Goals as goal

pub put_array-returns-then-is_open-clause-wrote : goal.put_array-returns-then-is_open-clause-wrote
put_array-returns-then-is_open-clause-wrote t c =
    let level : suc (c.args.depth - 1) ≡ c.args.depth = omega (arith, c.if-depth-eq0.false) in
    let found = c.in_ok-items.items in
    completed _ c.args.depth (h.Array None) c.as_slice-bytes.result.now c.args.out.now.items
    c.put_whole.new.out.items c.put_whole.result c.put_whole.ensures.wrote
    (rw (c.as_slice-bytes.ensures.value, c.in_ok-put.ensures.wrote) (open_array_completes _
    c.args.depth (c.args.depth - 1) found.count found.bytes.items level c.in_ok-items.ensures.items))

pub put_array-returns-clause-wrote : goal.put_array-returns-clause-wrote
put_array-returns-clause-wrote t c =
    let level : suc (c.args.depth - 1) ≡ c.args.depth = omega (arith, c.if-depth-eq0.false) in
    let found = c.in_ok-items.items in
    completed _ c.args.depth (h.Array (Some found.count)) c.as_slice.result.now
    c.args.out.now.items c.put_whole-2.new.out.items c.put_whole-2.result c.put_whole-2.ensures.wrote
    (rw c.as_slice.ensures.value (array_completes _ c.args.depth (c.args.depth - 1) found.count
    found.bytes.items level c.in_ok-items.ensures.items))

pub put_map-returns-then-is_open-clause-wrote : goal.put_map-returns-then-is_open-clause-wrote
put_map-returns-then-is_open-clause-wrote t c =
    let level : suc (c.args.depth - 1) ≡ c.args.depth = omega (arith, c.if-depth-eq0.false) in
    let found = c.in_ok-pairs.pairs in
    completed _ c.args.depth (h.Map None) c.as_slice-bytes.result.now c.args.out.now.items
    c.put_whole.new.out.items c.put_whole.result c.put_whole.ensures.wrote
    (rw (c.as_slice-bytes.ensures.value, c.in_ok-put.ensures.wrote) (open_map_completes _
    c.args.depth (c.args.depth - 1) found.count found.bytes.items level c.in_ok-pairs.ensures.pairs))

pub put_map-returns-clause-wrote : goal.put_map-returns-clause-wrote
put_map-returns-clause-wrote t c =
    let level : suc (c.args.depth - 1) ≡ c.args.depth = omega (arith, c.if-depth-eq0.false) in
    let found = c.in_ok-pairs.pairs in
    completed _ c.args.depth (h.Map (Some found.count)) c.as_slice.result.now
    c.args.out.now.items c.put_whole-2.new.out.items c.put_whole-2.result c.put_whole-2.ensures.wrote
    (rw c.as_slice.ensures.value (map_completes _ c.args.depth (c.args.depth - 1) found.count
    found.bytes.items level c.in_ok-pairs.ensures.pairs))

pub put_embedded-returns-clause-wrote : goal.put_embedded-returns-clause-wrote
put_embedded-returns-clause-wrote t c =
    completed _ c.args.depth (h.Bytes (Some (length c.as_slice-bytes.result.now)))
    c.as_slice-bytes.result.now c.args.out.now.items c.put_whole.new.out.items c.put_whole.result
    c.put_whole.ensures.wrote (byte_string refl)

pub put_number-returns-clause-wrote : goal.put_number-returns-clause-wrote
put_number-returns-clause-wrote t c =
    let level : suc (c.args.depth - 1) ≡ c.args.depth = omega (arith, c.if-depth-eq0.false) in
    completed _ c.args.depth (h.Tag c.in-Positive.tag) c.as_slice.result.now
    c.args.out.now.items c.put_whole.new.out.items c.put_whole.result c.put_whole.ensures.wrote
    (rw c.as_slice.ensures.value (tag_completes _ c.args.depth (c.args.depth - 1)
    c.in-Positive.tag c.in_ok-item.item.items level c.in_ok-item.ensures.item))

pub read_items-items-init : goal.read_items-items-init
read_items-items-init t c = record {
  within = omega arith;
  count = omega arith;
  items = rw c.new-bytes.ensures.items no_items;
}

pub read_items-items-preserved : goal.read_items-items-preserved
read_items-items-preserved t c = record {
  within = omega arith;
  count = omega (arith, c.in_ok-put_item.ensures.shorter);
  items = items_more _ c.args.depth c.items.count c.items.bytes.items c.put_item.new.out.items
      c.items.invariant.items c.in_ok-put_item.ensures.wrote;
}

pub read_pairs-pairs-init : goal.read_pairs-pairs-init
read_pairs-pairs-init t c = record {
  within = omega arith;
  count = omega arith;
  pairs = rw c.new-bytes.ensures.items no_items;
}

pub read_pairs-pairs-preserved : goal.read_pairs-pairs-preserved
read_pairs-pairs-preserved t c = record {
  within = omega arith;
  count = omega (arith, c.in_ok-put_item.ensures.shorter);
  pairs = pairs_more _ c.args.depth c.pairs.count c.pairs.bytes.items c.put_item.new.out.items
      c.put_item-in-pairs.new.out.items c.pairs.invariant.pairs c.in_ok-put_item.ensures.wrote
      c.in_ok-put_item-2.ensures.wrote;
}
