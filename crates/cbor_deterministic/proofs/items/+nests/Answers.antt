use Rattle.std.proofs.Common.{rules, ◌-◌, arith, drop, inl, inr}
use Rattle.std.proofs.lemmas.List.{take_rest}
use Rattle.std.proofs.lemmas.Result.{err_from_is_err_and}
use Rattle.cbor_deterministic.specs.Refusals.{at_title}
use Rattle.cbor_deterministic.proofs.ItemRuns.{bytes_result, text_result, tag_result, array_result, map_result}
use Rattle.cbor_deterministic.proofs.ItemRuns.{item_result}
use Rattle.cbor_deterministic.proofs.ItemRuns.{value_in_front, items_done, items_stop, items_more, items_run}
use Rattle.cbor_deterministic.proofs.ItemRuns.{pairs_done}
use Rattle.cbor_deterministic.proofs.ItemRuns.{key_stops}
use Rattle.cbor_deterministic.proofs.ItemRuns.{order_stops, value_stops, pairs_more, deep}
use Rattle.cbor_deterministic.proofs.FlatLaws.{flat_front}
use Rattle.cbor_deterministic.proofs.items.+nests.Goals as goal
use Rattle.cbor_deterministic.proofs.items.+nests.Goals.{skip_rest-in-Tag+else-depth-gt0}
use Rattle.cbor_deterministic.proofs.items.+nests.Goals.{skip_rest-in-Array-Some+else-depth-gt0-2}
use Rattle.cbor_deterministic.proofs.items.+nests.Goals.{skip_rest-in-Map-Some+else-depth-gt0-3}

pub skip_rest-returns-in-Positive : goal.skip_rest-returns-in-Positive
skip_rest-returns-in-Positive t c = value_in_front c.args.order c.args.depth c.args.header c.args.bytes.now
    c.in-Positive.is

pub skip_rest-returns-in-Bytes-Some : goal.skip_rest-returns-in-Bytes-Some
skip_rest-returns-in-Bytes-Some t c =
    bytes_result c.args.order c.args.depth c.in-Bytes-Some.len c.args.left c.args.header c.args.bytes.now
    c.skip_body.result (search rules)
    c.skip_body.ensures

pub skip_rest-returns-in-Text-Some : goal.skip_rest-returns-in-Text-Some
skip_rest-returns-in-Text-Some t c =
    text_result c.args.order c.args.depth c.in-Text-Some.len c.args.left c.args.header c.args.bytes.now
    c.skip_text.result (search rules)
    c.skip_text.ensures

pub skip_rest-returns-in-Tag : goal.skip_rest-returns-in-Tag
skip_rest-returns-in-Tag t c =
    tag_result c.args.order (c.args.depth - 1) c.args.depth c.in-Tag.field-0 c.args.left c.args.header c.args.bytes.now
    c.skip_item.result c.in-Tag.is (omega arith) c.skip_item.ensures

pub skip_rest-returns-in-Array-Some : goal.skip_rest-returns-in-Array-Some
skip_rest-returns-in-Array-Some t c =
    array_result c.args.order (c.args.depth - 1) c.args.depth c.in-Array-Some.count c.args.left c.args.header
    c.args.bytes.now
    c.skip_items.result (search rules) (omega arith) c.skip_items.ensures

pub skip_rest-returns-in-Map-Some : goal.skip_rest-returns-in-Map-Some
skip_rest-returns-in-Map-Some t c =
    map_result c.args.order (c.args.depth - 1) c.args.depth c.in-Map-Some.count c.args.left c.args.header
    c.args.bytes.now
    c.skip_pairs.result (search rules) (omega arith) c.skip_pairs.ensures

pub skip_item-returns-then-len-gt0 : goal.skip_item-returns-then-len-gt0
skip_item-returns-then-len-gt0 t c =
    rw take_rest (flat_front c.args.order c.args.depth c.flat_len-len.result c.args.bytes.now
    (c.flat_len-len.ensures.flat c.if-len-gt0.true))

pub skip_titled-returns-in-Ok : goal.skip_titled-returns-in-Ok
skip_titled-returns-in-Ok t c =
    item_result c.args.order c.args.depth c.in-Ok.header c.args.bytes.now c.in-Ok.rest.now c.skip_rest.result
    c.in-Ok.ensures
    c.skip_rest.ensures

pub skip_titled-returns-in-Err : goal.skip_titled-returns-in-Err
skip_titled-returns-in-Err t c = at_title c.in-Err.ensures

pub skip_items-returns-then-run-eq0 : goal.skip_items-returns-then-run-eq0
skip_items-returns-then-run-eq0 t c =
    rw take_rest (items_done c.args.order c.args.depth c.args.count c.flat_run-run.result.left c.args.bytes.now
    (drop c.flat_run-run.result.len c.items.rest.now) (items_run c.args.order c.args.depth c.args.count c.items.due
    c.flat_run-run.result.left c.flat_run-run.result.len c.args.bytes.now c.items.rest.now c.items.invariant
    c.flat_run-run.ensures.most (c.flat_run-run.ensures.flat c.args.order c.args.depth)) c.if-run-eq0.true)

pub skip_items-returns-in_err-rest : goal.skip_items-returns-in_err-rest
skip_items-returns-in_err-rest t c =
    let p = err_from_is_err_and c.from_residual.result c.from_residual.ensures.1 in
    rw (p.1, p.2) (items_stop c.args.order c.args.depth c.args.count c.flat_run-run.result.left c.args.bytes.now
    (drop c.flat_run-run.result.len c.items.rest.now) _ _ (items_run c.args.order c.args.depth c.args.count c.items.due
    c.flat_run-run.result.left c.flat_run-run.result.len c.args.bytes.now c.items.rest.now c.items.invariant
    c.flat_run-run.ensures.most (c.flat_run-run.ensures.flat c.args.order c.args.depth))
    (omega (arith, c.if-run-eq0.false)) (rw take_rest at c.in_err-rest.ensures))

pub skip_items-items-preserved : goal.skip_items-items-preserved
skip_items-items-preserved t c =
    items_more c.args.order c.args.depth c.args.count c.flat_run-run.result.left (c.flat_run-run.result.left - 1)
    c.args.bytes.now (drop c.flat_run-run.result.len c.items.rest.now) c.in_ok-rest.rest.now
    (items_run c.args.order c.args.depth c.args.count c.items.due
    c.flat_run-run.result.left c.flat_run-run.result.len c.args.bytes.now c.items.rest.now c.items.invariant
    c.flat_run-run.ensures.most (c.flat_run-run.ensures.flat c.args.order c.args.depth))
    (omega (arith, c.if-run-eq0.false)) (rw take_rest at c.in_ok-rest.ensures)

pub skip_items-returns : goal.skip_items-returns
skip_items-returns t c =
    items_done c.args.order c.args.depth c.args.count c.items.due c.args.bytes.now c.items.rest.now c.items.invariant
    (omega arith)

pub skip_pairs-returns-in_err-after : goal.skip_pairs-returns-in_err-after
skip_pairs-returns-in_err-after t c =
    let p = err_from_is_err_and c.from_residual.result c.from_residual.ensures.1 in
    rw (p.1, p.2) (key_stops c.args.order c.args.depth c.args.count c.pairs.due c.args.bytes.now c.pairs.above.now
    c.pairs.rest.now
    _ _ c.pairs.invariant c.pairs-test.true c.in_err-after.ensures)

pub skip_pairs-returns-in-Some : goal.skip_pairs-returns-in-Some
skip_pairs-returns-in-Some t c =
    order_stops c.args.order c.args.depth c.args.count c.pairs.due c.args.bytes.now c.pairs.above.now c.pairs.rest.now
    c.in_ok-after.after.now c.in-Some.why c.pairs.invariant c.pairs-test.true c.in_ok-after.ensures
    c.in-Some.ensures

pub skip_pairs-returns-in_err-rest : goal.skip_pairs-returns-in_err-rest
skip_pairs-returns-in_err-rest t c =
    let p = err_from_is_err_and c.from_residual-in_err-rest.result c.from_residual-in_err-rest.ensures.1 in
    rw (p.1, p.2) (value_stops c.args.order c.args.depth c.args.count c.pairs.due c.args.bytes.now c.pairs.above.now
    c.pairs.rest.now c.in_ok-after.after.now _ _ c.pairs.invariant c.pairs-test.true c.in_ok-after.ensures
    c.in_default.ensures c.in_err-rest.ensures)

pub skip_pairs-pairs-preserved : goal.skip_pairs-pairs-preserved
skip_pairs-pairs-preserved t c =
    pairs_more c.args.order c.args.depth c.args.count c.pairs.due (c.pairs.due - 1) c.args.bytes.now c.pairs.above.now
    c.pairs.rest.now c.in_ok-after.after.now c.in_ok-rest.rest.now c.pairs.invariant (omega arith)
    c.in_ok-after.ensures c.in_default.ensures c.in_ok-rest.ensures

pub skip_pairs-returns : goal.skip_pairs-returns
skip_pairs-returns t c =
    pairs_done c.args.order c.args.depth c.args.count c.pairs.due c.args.bytes.now c.pairs.above.now c.pairs.rest.now
    c.pairs.invariant (omega arith)

pub skip_rest-returns-in-Tag-2 : goal.skip_rest-returns-in-Tag-2
skip_rest-returns-in-Tag-2 t c =
    elim c.in-Tag-2-1.branch [
      | skip_rest-in-Tag+else-depth-gt0 w ↦
          deep c.args.order c.args.depth c.args.left c.args.header c.args.bytes.now w.if-depth-gt0.false
          (inl (w.in-Tag.field-0, w.in-Tag.is))
      | skip_rest-in-Array-Some+else-depth-gt0-2 w ↦
          deep c.args.order c.args.depth c.args.left c.args.header c.args.bytes.now w.if-depth-gt0-2.false
          (inr (inl (w.in-Array-Some.count, search rules)))
      | skip_rest-in-Map-Some+else-depth-gt0-3 w ↦
          deep c.args.order c.args.depth c.args.left c.args.header c.args.bytes.now w.if-depth-gt0-3.false
          (inr (inr (w.in-Map-Some.count, search rules)))
    ]
