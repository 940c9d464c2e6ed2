use Rattle.std.proofs.Common.{arith, length, refl, rules, take, ◌*◌, ◌+◌, ◌-◌, ◌∙◌, ap, inl, inr, Some}
use Rattle.ciborium_ll_grammar.specs.declared.hdr.Header.TheVariants as h
use Rattle.ciborium_ll_grammar.specs.Title.{Array, Map, title_len}
use Rattle.std.proofs.lemmas.List.{take_rest}
use Rattle.std.proofs.lemmas.Result.{err_from_is_err_and, MatchResult-weaker}
use Rattle.ciborium_ll_grammar.specs.Strings.{Bytes as OfBytes, Text as OfText}
use Rattle.cbor_canonical.specs.declared.Stop.TheVariants.{Malformed}
use Rattle.cbor_canonical.proofs.ItemRuns.{number_turned, simple_turned, float_turned, string_turned, item_turned}
use Rattle.cbor_canonical.proofs.ItemRuns.{tag_turned, array_told, array_open, items_start, items_more, items_done}
use Rattle.cbor_canonical.proofs.ItemRuns.{items_closed, nest_turned}
use Rattle.cbor_canonical.proofs.PairRuns.{pairs_start, pairs_go_on, pairs_done, pairs_closed, pair_turned}
use Rattle.cbor_canonical.proofs.PairRuns.{kept_twice}
use Rattle.cbor_canonical.proofs.FailRuns.{item_stops, no_title_stops, read_all, read_pairs, items_stop, items_over}
use Rattle.cbor_canonical.proofs.FailRuns.{pairs_stop, pairs_over, key_stops, value_stops, small_stops, string_stops}
use Rattle.cbor_canonical.proofs.FailRuns.{tag_stops, array_stops, map_stops, break_stops, deep_stops}
use Rattle.cbor_canonical.proofs.FailRuns.{after_stops}
use Rattle.cbor_canonical.proofs.MapRuns.{map_told, map_open, pairs_placed, pairs_sorted_there, order_stops, keys_there}
use Rattle.cbor_canonical.proofs.RoomPairs.{order_reach}
use Rattle.cbor_canonical.proofs.RoomRuns.{grows_none, grows_more, grows_pair, grows_alone, grows_titled, grows_opened}
use Rattle.cbor_canonical.proofs.RoomRuns.{lacks_title, lacks_alone, lacks_titled, lacks_opened, lacks_order, title_grows}
use Rattle.cbor_canonical.proofs.KeptLaws.{flat_grows, flat_turned}
use Rattle.cbor_canonical.proofs.WriteRuns.{adds_reach}
use Rattle.cbor_canonical.proofs.rewrite.+rewrites.Goals as goal
use Rattle.cbor_canonical.proofs.rewrite.+rewrites.Goals.{rewrite_rest-in-Tag+else-depth-gt0}
use Rattle.cbor_canonical.proofs.rewrite.+rewrites.Goals.{rewrite_rest-in-Array+else-depth-gt0-2}
use Rattle.cbor_canonical.proofs.rewrite.+rewrites.Goals.{rewrite_rest-in-Map+else-depth-gt0-3}
use Rattle.cbor_canonical.proofs.rewrite.+rewrites.Goals.{rewrite_rest-else-number-ge24-via-else-number-ge24}
use Rattle.cbor_canonical.proofs.rewrite.+rewrites.Goals.{rewrite_rest-else-number-ge24-via-then-number-ge24+else-number-lt32}

-- ---- one item

pub rewrite_item-returns-in-Some-clause-written : goal.rewrite_item-returns-in-Some-clause-written
rewrite_item-returns-in-Some-clause-written t c =
    let w = c.in_ok-end.ensures.written in
    rw take_rest (record {
      is = flat_turned c.args.order c.args.depth c.in-Some.len c.args.bytes.now (take c.args.at c.args.out.now)
          (take c.in_ok-end.end c.put_bytes.new.out) c.in-Some.ensures w.is;
      from = w.from;
      within = w.within;
    })

pub rewrite_item-returns-in-Some-clause-room : goal.rewrite_item-returns-in-Some-clause-room
rewrite_item-returns-in-Some-clause-room t c =
    rw take_rest (flat_grows c.args.order c.args.depth c.in-Some.len c.args.bytes.now c.args.at c.in_ok-end.end
    c.in-Some.ensures (adds_reach _ c.args.at _ c.args.out.now _ c.requires c.in_ok-end.ensures.written))

pub rewrite_titled-returns-in-None-clause-written : goal.rewrite_titled-returns-in-None-clause-written
rewrite_titled-returns-in-None-clause-written t c = no_title_stops c.args.depth c.args.bytes.now c.in-None.ensures

pub rewrite_titled-returns-in-Some-clause-written : goal.rewrite_titled-returns-in-Some-clause-written
rewrite_titled-returns-in-Some-clause-written t c =
    MatchResult-weaker c.rewrite_rest.result c.rewrite_rest.ensures.written
    (λ found g. record {
      is = item_turned c.args.depth c.in-Some.header c.args.bytes.now c.in-Some.rest.now found.0.now
          (take c.args.at c.args.out.now) (take found.1 c.rewrite_rest.new.out) c.in-Some.ensures g.is;
      from = g.from;
      within = g.within;
    })
    (λ stop f. item_stops c.args.depth stop c.in-Some.header c.args.bytes.now c.in-Some.rest.now c.in-Some.ensures f)

-- ---- contents after a title

pub rewrite_rest-returns-then-number-lt32-clause-written : goal.rewrite_rest-returns-then-number-lt32-clause-written
rewrite_rest-returns-then-number-lt32-clause-written t c =
    small_stops c.args.depth c.in-Simple.number c.args.left c.args.header c.args.bytes.now c.in-Simple.is
    (omega arith, omega arith)

pub rewrite_rest-returns-in_ok-end-in-Positive-clause-written
    : goal.rewrite_rest-returns-in_ok-end-in-Positive-clause-written
rewrite_rest-returns-in_ok-end-in-Positive-clause-written t c =
    let w = c.in_ok-end-in-Positive.ensures.written in
    record {
      is = number_turned c.args.depth c.args.header c.args.bytes.now (take c.args.at c.args.out.now)
          (take c.in_ok-end-in-Positive.end c.put_title.new.out) c.in-Positive.is w.is;
      from = w.from;
      within = w.within;
    }

pub rewrite_rest-returns-in_ok-end-in-Simple-clause-written
    : goal.rewrite_rest-returns-in_ok-end-in-Simple-clause-written
rewrite_rest-returns-in_ok-end-in-Simple-clause-written t c =
    let w = c.in_ok-end-in-Simple.ensures.written in
    record {
      is = simple_turned c.args.depth c.args.header c.args.bytes.now (take c.args.at c.args.out.now)
          (take c.in_ok-end-in-Simple.end c.put_title-in-Simple.new.out) c.in-Simple.number c.in-Simple.is
          (elim c.else-number-ge24.branch [
            | rewrite_rest-else-number-ge24-via-then-number-ge24+else-number-lt32 v ↦
                inr (omega (arith, v.if-number-lt32.false))
            | rewrite_rest-else-number-ge24-via-else-number-ge24 v ↦ inl (omega (arith, v.if-number-ge24.false))
          ]) w.is;
      from = w.from;
      within = w.within;
    }

pub rewrite_rest-returns-in_ok-end-in-Float-clause-written : goal.rewrite_rest-returns-in_ok-end-in-Float-clause-written
rewrite_rest-returns-in_ok-end-in-Float-clause-written t c =
    let w = c.in_ok-end-in-Float.ensures.written in
    record {
      is = float_turned c.args.depth c.args.header c.in-Float.float c.narrowest.result c.args.bytes.now
          (take c.args.at c.args.out.now) (take c.in_ok-end-in-Float.end c.put_title-in-Float.new.out) c.in-Float.is
          c.narrowest.ensures.narrow c.put_title-in-Float.ensures.range w.is;
      from = w.from;
      within = w.within;
    }

pub rewrite_rest-returns-in-Bytes-clause-written : goal.rewrite_rest-returns-in-Bytes-clause-written
rewrite_rest-returns-in-Bytes-clause-written t c =
    MatchResult-weaker c.rewrite_string.result c.rewrite_string.ensures.written
    (λ found g. record {
      is = string_turned c.args.depth OfBytes c.in-Bytes.len c.args.header c.args.bytes.now found.0.now
          (take c.args.at c.args.out.now) (take found.1 c.rewrite_string.new.out) c.in-Bytes.is g.is;
      from = g.from;
      within = g.within;
    })
    (λ stop f. string_stops c.args.depth c.args.left stop OfBytes c.in-Bytes.len c.args.header c.args.bytes.now c.in-Bytes.is f)

pub rewrite_rest-returns-in-Text-clause-written : goal.rewrite_rest-returns-in-Text-clause-written
rewrite_rest-returns-in-Text-clause-written t c =
    MatchResult-weaker c.rewrite_string-in-Text.result c.rewrite_string-in-Text.ensures.written
    (λ found g. record {
      is = string_turned c.args.depth OfText c.in-Text.len c.args.header c.args.bytes.now found.0.now
          (take c.args.at c.args.out.now) (take found.1 c.rewrite_string-in-Text.new.out) c.in-Text.is g.is;
      from = g.from;
      within = g.within;
    })
    (λ stop f. string_stops c.args.depth c.args.left stop OfText c.in-Text.len c.args.header c.args.bytes.now c.in-Text.is f)

pub rewrite_rest-returns-in_ok-end-in-Tag-clause-written : goal.rewrite_rest-returns-in_ok-end-in-Tag-clause-written
rewrite_rest-returns-in_ok-end-in-Tag-clause-written t c =
    let w = c.in_ok-end-in-Tag.ensures.written in
    MatchResult-weaker c.rewrite_item.result c.rewrite_item.ensures.written
    (λ found g. record {
      is = tag_turned c.args.depth (c.args.depth - 1) c.in-Tag.number c.args.header c.args.bytes.now found.0.now
          (take c.args.at c.args.out.now) (take c.in_ok-end-in-Tag.end c.put_title-in-Tag.new.out)
          (take found.1 c.rewrite_item.new.out) c.in-Tag.is (omega arith) w.is g.is;
      from = omega (arith, w.from, g.from);
      within = g.within;
    })
    (λ stop f. tag_stops c.args.depth (c.args.depth - 1) c.in-Tag.number c.args.left stop c.args.header c.args.bytes.now
    c.in-Tag.is (omega arith) f)

pub rewrite_rest-returns-in-Break-clause-written : goal.rewrite_rest-returns-in-Break-clause-written
rewrite_rest-returns-in-Break-clause-written t c =
    break_stops c.args.depth c.args.left c.args.header c.args.bytes.now c.in-Break.is

pub rewrite_rest-returns-in-Tag-2-clause-written : goal.rewrite_rest-returns-in-Tag-2-clause-written
rewrite_rest-returns-in-Tag-2-clause-written t c =
    elim c.in-Tag-2-1.branch [
      | rewrite_rest-in-Tag+else-depth-gt0 w ↦
          deep_stops c.args.depth c.args.left c.args.header c.args.bytes.now (omega (arith, w.if-depth-gt0.false))
          (inl (w.in-Tag.number, w.in-Tag.is))
      | rewrite_rest-in-Array+else-depth-gt0-2 w ↦
          deep_stops c.args.depth c.args.left c.args.header c.args.bytes.now (omega (arith, w.if-depth-gt0-2.false))
          (inr (inl (w.in-Array.count, w.in-Array.is)))
      | rewrite_rest-in-Map+else-depth-gt0-3 w ↦
          deep_stops c.args.depth c.args.left c.args.header c.args.bytes.now (omega (arith, w.if-depth-gt0-3.false))
          (inr (inr (w.in-Map.count, w.in-Map.is)))
    ]

pub rewrite_rest-returns-in-Array-clause-written : goal.rewrite_rest-returns-in-Array-clause-written
rewrite_rest-returns-in-Array-clause-written t c =
    MatchResult-weaker c.rewrite_array.result c.rewrite_array.ensures.written
    (λ found g. nest_turned c.args.depth (c.args.depth - 1) c.args.header _ c.args.bytes.now found.0.now c.args.at
    found.1 c.args.out.now c.rewrite_array.new.out c.in-Array.is (omega arith) g)
    (λ stop f. after_stops c.args.depth (c.args.depth - 1) c.args.left stop c.args.header _ c.args.bytes.now
    c.in-Array.is (omega arith) f)

pub rewrite_rest-returns-in-Map-clause-written : goal.rewrite_rest-returns-in-Map-clause-written
rewrite_rest-returns-in-Map-clause-written t c =
    MatchResult-weaker c.rewrite_map.result c.rewrite_map.ensures.written
    (λ found g. nest_turned c.args.depth (c.args.depth - 1) c.args.header _ c.args.bytes.now found.0.now c.args.at
    found.1 c.args.out.now c.rewrite_map.new.out c.in-Map.is (omega arith) g)
    (λ stop f. after_stops c.args.depth (c.args.depth - 1) c.args.left stop c.args.header _ c.args.bytes.now
    c.in-Map.is (omega arith) f)

-- ---- arrays

pub rewrite_array-returns-in_err-rest-in-Some-clause-written
    : goal.rewrite_array-returns-in_err-rest-in-Some-clause-written
rewrite_array-returns-in_err-rest-in-Some-clause-written t c =
    let p = err_from_is_err_and c.from_residual-in_err-rest-in-Some.result
    c.from_residual-in_err-rest-in-Some.ensures.1 in
    rw (p.1, p.2, c.in-Some.is) (array_stops c.args.depth _ (Some c.in-Some.told) c.args.bytes.now
    c.in_err-rest-in-Some.ensures.written)

pub rewrite_array-returns-in_err-done-in-None-clause-written
    : goal.rewrite_array-returns-in_err-done-in-None-clause-written
rewrite_array-returns-in_err-done-in-None-clause-written t c =
    let p = err_from_is_err_and c.from_residual-in_err-done-in-None.result
    c.from_residual-in_err-done-in-None.ensures.1 in
    rw (p.1, p.2) (array_stops c.args.depth _ c.args.count c.args.bytes.now c.in_err-done-in-None.ensures.written)

pub rewrite_array-returns-in_ok-rest-in-Some-clause-written
    : goal.rewrite_array-returns-in_ok-rest-in-Some-clause-written
rewrite_array-returns-in_ok-rest-in-Some-clause-written t c =
    rw c.in-Some.is (array_told c.args.depth c.in-Some.told c.in_ok-rest-in-Some.field-0-0 (Some c.in-Some.told)
    c.args.bytes.now c.in_ok-rest-in-Some.rest.now c.args.at c.in_ok-start-in-Some.start c.in_ok-rest-in-Some.end
    c.args.out.now c.put_title.new.out c.rewrite_items.new.out refl c.put_title.ensures.range
    c.in_ok-start-in-Some.ensures.written c.in_ok-rest-in-Some.ensures.written)

pub rewrite_array-returns-in_ok-after-in-None-clause-written
    : goal.rewrite_array-returns-in_ok-after-in-None-clause-written
rewrite_array-returns-in_ok-after-in-None-clause-written t c =
    array_open c.args.depth c.in_ok-done-in-None.done c.args.count c.args.bytes.now c.in_ok-done-in-None.rest.now
    c.args.at c.in_ok-done-in-None.end c.in_ok-after-in-None.after c.args.out.now c.rewrite_items-in-None.new.out
    c.insert_title.new.out c.requires c.insert_title.ensures.range c.in_ok-done-in-None.ensures.written
    c.in_ok-after-in-None.ensures.written

pub rewrite_items-items-init : goal.rewrite_items-items-init
rewrite_items-items-init t c = record {
  is = record {
    is = items_start c.args.depth c.args.bytes.now (take c.args.at c.args.out.now);
    from = omega arith;
    within = c.requires;
  };
  grown = grows_none _ _;
  within = omega arith;
}

pub rewrite_items-returns-in-Some-clause-written : goal.rewrite_items-returns-in-Some-clause-written
rewrite_items-returns-in-Some-clause-written t c =
    let s = c.items.invariant.is in
    record {
      is = items_closed c.args.depth c.items.done c.args.count c.args.bytes.now c.items.rest.now c.in-Some.after.now
          (take c.args.at c.args.out.now) (take c.items.end c.items.out) s.is c.in-Some.ensures.0 c.in-Some.ensures.1;
      from = s.from;
      within = s.within;
    }

pub rewrite_items-returns-in_err-rest-clause-written : goal.rewrite_items-returns-in_err-rest-clause-written
rewrite_items-returns-in_err-rest-clause-written t c =
    let p = err_from_is_err_and c.from_residual.result c.from_residual.ensures.1 in
    let s = c.items.invariant.is.is in
    rw (p.1, p.2) (items_stop c.args.depth _ c.args.count c.items.done c.args.bytes.now s.items c.items.rest.now s.whole
    (read_all c.args.depth c.items.done s.items s.written s.are)
    (λ n e. omega (arith, c.items-test.true, c.limit_of-limit.ensures.told n e)) c.in_default.ensures
    c.in_err-rest.ensures.written)

pub rewrite_items-items-preserved : goal.rewrite_items-items-preserved
rewrite_items-items-preserved t c =
    let s = c.items.invariant.is in
    let g = c.in_ok-rest.ensures.written in
    record {
      is = record {
        is = items_more c.args.depth c.items.done (c.items.done + 1) c.args.bytes.now c.items.rest.now
            c.in_ok-rest.field-0-0.now (take c.args.at c.args.out.now) (take c.items.end c.items.out)
            (take c.in_ok-rest.field-0-1 c.rewrite_item.new.out) s.is refl g.is;
        from = omega (arith, s.from, g.from);
        within = g.within;
      };
      grown = grows_more _ _ _ _ _ _ _ _ c.items.invariant.grown c.in_ok-rest.ensures.room;
      within = omega (arith, c.items-test.true);
    }

pub rewrite_items-returns-in-Some-count-clause-written : goal.rewrite_items-returns-in-Some-count-clause-written
rewrite_items-returns-in-Some-count-clause-written t c =
    let within = c.items.invariant.within in
    let s = c.items.invariant.is in
    let n = c.limit_of-limit.ensures.told c.in-Some-count.field-0 c.in-Some-count.is in
    record {
      is = items_done c.args.depth c.items.done c.args.count c.args.bytes.now c.items.rest.now
          (take c.args.at c.args.out.now) (take c.items.end c.items.out) s.is
          (c.in-Some-count.is ∙ ap Some (omega (arith, within, n, c.items-test.false)));
      from = s.from;
      within = s.within;
    }

pub rewrite_items-returns-in-None-clause-written : goal.rewrite_items-returns-in-None-clause-written
rewrite_items-returns-in-None-clause-written t c =
    let s = c.items.invariant.is.is in (
      items_over c.args.depth Malformed c.args.count c.items.done c.args.bytes.now s.items c.items.rest.now s.whole
          (read_all c.args.depth c.items.done s.items s.written s.are) c.in-None.is
          (omega (arith, c.items-test.false, c.limit_of-limit.ensures.open_count c.in-None.is)),
      tt,
    )

-- ---- maps

pub rewrite_map-returns-in_ok-rest-in-Some-clause-written : goal.rewrite_map-returns-in_ok-rest-in-Some-clause-written
rewrite_map-returns-in_ok-rest-in-Some-clause-written t c =
    rw c.in-Some.is (map_told c.args.depth c.in-Some.told c.in_ok-rest-in-Some.field-0-0 (Some c.in-Some.told)
    c.args.bytes.now c.in_ok-rest-in-Some.rest.now c.args.at c.in_ok-start-in-Some.start c.in_ok-rest-in-Some.end
    c.args.out.now c.put_title.new.out c.rewrite_sorted.new.out refl c.put_title.ensures.range
    c.in_ok-start-in-Some.ensures.written c.in_ok-rest-in-Some.ensures.written)

pub rewrite_map-returns-in_ok-after-in-None-clause-written : goal.rewrite_map-returns-in_ok-after-in-None-clause-written
rewrite_map-returns-in_ok-after-in-None-clause-written t c =
    map_open c.args.depth c.in_ok-done-in-None.done c.args.count c.args.bytes.now c.in_ok-done-in-None.rest.now
    c.args.at c.in_ok-done-in-None.end c.in_ok-after-in-None.after c.args.out.now c.rewrite_sorted-in-None.new.out
    c.insert_title.new.out c.requires c.insert_title.ensures.range c.in_ok-done-in-None.ensures.written
    c.in_ok-after-in-None.ensures.written

pub rewrite_sorted-returns-in_err-done-clause-written : goal.rewrite_sorted-returns-in_err-done-clause-written
rewrite_sorted-returns-in_err-done-clause-written t c =
    let p = err_from_is_err_and c.from_residual.result c.from_residual.ensures.1 in
    rw (p.1, p.2) (map_stops c.args.depth _ c.args.count c.args.bytes.now c.in_err-done.ensures.written)

pub rewrite_sorted-returns-in_err-after-clause-written : goal.rewrite_sorted-returns-in_err-after-clause-written
rewrite_sorted-returns-in_err-after-clause-written t c =
    let p = err_from_is_err_and c.from_residual-in_err-after.result c.from_residual-in_err-after.ensures.1 in
    let g = c.in_ok-done.ensures.written in
    rw (p.1, p.2) (order_stops c.args.depth c.args.count c.args.bytes.now c.in_ok-done.rest.now g.entries _ g.turns
    (c.in_err-after.ensures.ordered g.entries (keys_there c.args.depth g.turns.pairs g.entries g.turns.are)
    (pairs_placed c.args.depth c.in_ok-done.done c.args.count c.args.bytes.now c.in_ok-done.rest.now c.args.at
    c.in_ok-done.end c.args.out.now c.rewrite_pairs.new.out c.rewrite_pairs.new.spans c.requires g)))

pub rewrite_sorted-returns-clause-written : goal.rewrite_sorted-returns-clause-written
rewrite_sorted-returns-clause-written t c =
    let g = c.in_ok-done.ensures.written in
    pairs_sorted_there c.args.depth c.in_ok-done.done c.args.count c.args.bytes.now c.in_ok-done.rest.now c.args.at
    c.in_ok-done.end c.in_ok-after.after c.args.out.now c.rewrite_pairs.new.out c.order_pairs.new.out
    c.rewrite_pairs.new.spans c.requires g
    (c.in_ok-after.ensures.ordered g.entries (keys_there c.args.depth g.turns.pairs g.entries g.turns.are)
    (pairs_placed c.args.depth c.in_ok-done.done c.args.count c.args.bytes.now c.in_ok-done.rest.now c.args.at
    c.in_ok-done.end c.args.out.now c.rewrite_pairs.new.out c.rewrite_pairs.new.spans c.requires g))

pub rewrite_pair-returns-in_err-after-clause-written : goal.rewrite_pair-returns-in_err-after-clause-written
rewrite_pair-returns-in_err-after-clause-written t c =
    let p = err_from_is_err_and c.from_residual.result c.from_residual.ensures.1 in
    rw (p.1, p.2) (key_stops c.args.depth _ c.args.bytes.now c.in_err-after.ensures.written)

pub rewrite_pair-returns-in_err-rest-clause-written : goal.rewrite_pair-returns-in_err-rest-clause-written
rewrite_pair-returns-in_err-rest-clause-written t c =
    let p = err_from_is_err_and c.from_residual-in_err-rest.result c.from_residual-in_err-rest.ensures.1 in
    rw (p.1, p.2) (value_stops c.args.depth _ c.args.bytes.now c.in_ok-after.after.now _ _
    c.in_ok-after.ensures.written.is c.in_err-rest.ensures.written)

pub rewrite_pair-returns-clause-written : goal.rewrite_pair-returns-clause-written
rewrite_pair-returns-clause-written t c =
    pair_turned c.args.depth c.args.bytes.now c.in_ok-after.after.now c.in_ok-rest.rest.now c.args.at
    c.in_ok-after.key_end c.in_ok-rest.end c.args.out.now c.rewrite_item.new.out c.rewrite_item-2.new.out c.args.done
    c.args.spans.now _ c.put_span.new.spans c.requires.start (search rules) c.in_ok-after.ensures.written
    c.in_ok-rest.ensures.written (kept_twice c.args.done c.args.spans.now _ _ c.requires.held) c.in_ok-put_span.ensures.put

pub rewrite_pairs-pairs-init : goal.rewrite_pairs-pairs-init
rewrite_pairs-pairs-init t c = record {
  is = pairs_start c.args.depth c.args.bytes.now c.args.at c.args.out.now c.args.spans.now c.requires;
  grown = grows_none _ _;
  within = omega arith;
}

pub rewrite_pairs-returns-in-Some-clause-written : goal.rewrite_pairs-returns-in-Some-clause-written
rewrite_pairs-returns-in-Some-clause-written t c =
    pairs_closed c.args.depth c.pairs.done c.args.count c.args.bytes.now c.pairs.rest.now c.in-Some.after.now c.args.at
    c.pairs.end c.args.out.now c.pairs.out c.pairs.spans c.pairs.invariant.is c.in-Some.ensures.0 c.in-Some.ensures.1

pub rewrite_pairs-returns-in_err-rest-clause-written : goal.rewrite_pairs-returns-in_err-rest-clause-written
rewrite_pairs-returns-in_err-rest-clause-written t c =
    let p = err_from_is_err_and c.from_residual.result c.from_residual.ensures.1 in
    let s = c.pairs.invariant.is in
    rw (p.1, p.2) (pairs_stop c.args.depth _ c.args.count c.pairs.done c.args.bytes.now s.pairs c.pairs.rest.now s.whole
    (read_pairs c.args.depth c.pairs.done s.pairs s.entries s.are s.count)
    (λ n e. omega (arith, c.pairs-test.true, c.limit_of-limit.ensures.told n e)) c.in_default.ensures
    c.in_err-rest.ensures.written)

pub rewrite_pairs-pairs-preserved : goal.rewrite_pairs-pairs-preserved
rewrite_pairs-pairs-preserved t c = record {
  is = pairs_go_on c.args.depth c.pairs.done (c.pairs.done + 1) c.args.bytes.now c.pairs.rest.now
      c.in_ok-rest.field-0-0.now c.args.at c.pairs.end c.in_ok-rest.field-0-1 c.args.out.now c.pairs.out
      c.rewrite_pair.new.out c.pairs.spans c.rewrite_pair.new.spans c.requires (search rules) c.pairs.invariant.is refl
      c.in_ok-rest.ensures.written;
  grown = grows_pair _ _ _ _ _ _ _ c.pairs.invariant.grown c.in_ok-rest.ensures.room;
  within = omega (arith, c.pairs-test.true);
}

pub rewrite_pairs-returns-in-Some-count-clause-written : goal.rewrite_pairs-returns-in-Some-count-clause-written
rewrite_pairs-returns-in-Some-count-clause-written t c =
    let within = c.pairs.invariant.within in
    let n = c.limit_of-limit.ensures.told c.in-Some-count.field-0 c.in-Some-count.is in
    pairs_done c.args.depth c.pairs.done c.args.count c.args.bytes.now c.pairs.rest.now c.args.at c.pairs.end
    c.args.out.now c.pairs.out c.pairs.spans c.pairs.invariant.is
    (c.in-Some-count.is ∙ ap Some (omega (arith, within, n, c.pairs-test.false)))

pub rewrite_pairs-returns-in-None-clause-written : goal.rewrite_pairs-returns-in-None-clause-written
rewrite_pairs-returns-in-None-clause-written t c =
    let s = c.pairs.invariant.is in (
      pairs_over c.args.depth Malformed c.args.count c.pairs.done c.args.bytes.now s.pairs c.pairs.rest.now s.whole
          (read_pairs c.args.depth c.pairs.done s.pairs s.entries s.are s.count) c.in-None.is
          (omega (arith, c.pairs-test.false, c.limit_of-limit.ensures.open_count c.in-None.is)),
      tt,
    )

-- ---- memory

pub rewrite_rest-returns-in_ok-end-in-Positive-clause-room : goal.rewrite_rest-returns-in_ok-end-in-Positive-clause-room
rewrite_rest-returns-in_ok-end-in-Positive-clause-room t c = λ title is.
    grows_alone title c.args.header is (length c.args.bytes.now) c.args.at c.in_ok-end-in-Positive.end
    (title_len c.args.header) (omega arith)
    (adds_reach _ c.args.at _ c.args.out.now _ c.requires c.in_ok-end-in-Positive.ensures.written)

pub rewrite_rest-returns-in_err-end-in-Positive-clause-room
    : goal.rewrite_rest-returns-in_err-end-in-Positive-clause-room
rewrite_rest-returns-in_err-end-in-Positive-clause-room t c = λ title is.
    let p = err_from_is_err_and c.from_residual.result c.from_residual.ensures.1 in
    rw p.1 (lacks_title title c.args.header is (length c.args.bytes.now) c.args.at (length c.args.out.now)
    (length title + length c.args.bytes.now) (length c.args.spans.now) p.0 c.in_err-end-in-Positive.ensures.room)

pub rewrite_rest-returns-in_ok-end-in-Simple-clause-room : goal.rewrite_rest-returns-in_ok-end-in-Simple-clause-room
rewrite_rest-returns-in_ok-end-in-Simple-clause-room t c = λ title is.
    grows_alone title (h.Simple c.in-Simple.number) (rw c.in-Simple.is at is) (length c.args.bytes.now) c.args.at
    c.in_ok-end-in-Simple.end (title_len (h.Simple c.in-Simple.number)) (omega arith)
    (adds_reach _ c.args.at _ c.args.out.now _ c.requires c.in_ok-end-in-Simple.ensures.written)

pub rewrite_rest-returns-in_ok-end-in-Float-clause-room : goal.rewrite_rest-returns-in_ok-end-in-Float-clause-room
rewrite_rest-returns-in_ok-end-in-Float-clause-room t c = λ title is.
    grows_alone title (h.Float c.in-Float.float) (rw c.in-Float.is at is) (length c.args.bytes.now) c.args.at
    c.in_ok-end-in-Float.end (title_len (h.Float c.narrowest.result)) c.narrowest.ensures.no_longer
    (adds_reach _ c.args.at _ c.args.out.now _ c.requires c.in_ok-end-in-Float.ensures.written)

pub rewrite_rest-returns-in_err-end-in-Float-clause-room : goal.rewrite_rest-returns-in_err-end-in-Float-clause-room
rewrite_rest-returns-in_err-end-in-Float-clause-room t c = λ title is.
    let p = err_from_is_err_and c.from_residual-in_err-end-in-Float.result
    c.from_residual-in_err-end-in-Float.ensures.1 in
    rw p.1 (lacks_alone title (h.Float c.in-Float.float) (rw c.in-Float.is at is) (length c.args.bytes.now) c.args.at
    (length c.args.out.now) (length title + length c.args.bytes.now) (length c.args.spans.now)
    (title_len (h.Float c.narrowest.result)) p.0 c.narrowest.ensures.no_longer c.in_err-end-in-Float.ensures.room)

pub rewrite_rest-returns-in_ok-end-in-Tag-clause-room : goal.rewrite_rest-returns-in_ok-end-in-Tag-clause-room
rewrite_rest-returns-in_ok-end-in-Tag-clause-room t c = λ title is.
    let q = rw c.in-Tag.is at is in
    let start = adds_reach _ c.args.at c.in_ok-end-in-Tag.end c.args.out.now c.put_title-in-Tag.new.out c.requires
    c.in_ok-end-in-Tag.ensures.written in
    MatchResult-weaker c.rewrite_item.result c.rewrite_item.ensures.room
    (λ found g. grows_titled title (h.Tag c.in-Tag.number) q 1 (length c.args.bytes.now) (length found.0.now)
    (length found.0.now) c.args.at c.in_ok-end-in-Tag.end found.1 (omega arith) start g)
    (λ stop f. lacks_titled title (h.Tag c.in-Tag.number) q (length c.args.bytes.now) c.args.at c.in_ok-end-in-Tag.end
    (length c.args.out.now) (length c.args.bytes.now) (length c.args.spans.now) stop start (omega arith)
    (rw c.put_title-in-Tag.auto.out at f))

pub rewrite_array-returns-in_ok-rest-in-Some-clause-room : goal.rewrite_array-returns-in_ok-rest-in-Some-clause-room
rewrite_array-returns-in_ok-rest-in-Some-clause-room t c = λ title is.
    grows_titled title (h.Array (Some c.in-Some.told)) (rw c.in-Some.is at is) c.in_ok-rest-in-Some.field-0-0
    (length c.args.bytes.now) (length c.in_ok-rest-in-Some.rest.now) (length c.in_ok-rest-in-Some.rest.now + 0) c.args.at
    c.in_ok-start-in-Some.start c.in_ok-rest-in-Some.end (omega arith)
    (adds_reach _ c.args.at _ c.args.out.now _ c.requires c.in_ok-start-in-Some.ensures.written)
    c.in_ok-rest-in-Some.ensures.room

pub rewrite_array-returns-in_err-rest-in-Some-clause-room : goal.rewrite_array-returns-in_err-rest-in-Some-clause-room
rewrite_array-returns-in_err-rest-in-Some-clause-room t c = λ title is.
    let p = err_from_is_err_and c.from_residual-in_err-rest-in-Some.result
    c.from_residual-in_err-rest-in-Some.ensures.1 in
    rw (p.1, p.2) (lacks_titled title (h.Array (Some c.in-Some.told)) (rw c.in-Some.is at is)
    (length c.args.bytes.now) c.args.at c.in_ok-start-in-Some.start (length c.args.out.now) (length c.args.bytes.now)
    (length c.args.spans.now) _ (adds_reach _ c.args.at _ c.args.out.now _ c.requires
    c.in_ok-start-in-Some.ensures.written) (omega arith) (rw c.put_title.auto.out at c.in_err-rest-in-Some.ensures.room))

pub rewrite_array-returns-in_ok-after-in-None-clause-room : goal.rewrite_array-returns-in_ok-after-in-None-clause-room
rewrite_array-returns-in_ok-after-in-None-clause-room t c = λ title is.
    let done = c.in_ok-done-in-None.done in
    grows_opened title _ is done (length c.args.bytes.now) (length c.in_ok-done-in-None.rest.now) c.args.at
    c.in_ok-done-in-None.end c.in_ok-after-in-None.after (title_len (h.Array (Some done))) done (title_grows Array done)
    (omega arith) (rw c.in-None.is at c.in_ok-done-in-None.ensures.room) c.in_ok-after-in-None.ensures.reach

pub rewrite_array-returns-in_err-after-in-None-clause-room : goal.rewrite_array-returns-in_err-after-in-None-clause-room
rewrite_array-returns-in_err-after-in-None-clause-room t c = λ title is.
    let done = c.in_ok-done-in-None.done in
    let p = err_from_is_err_and c.from_residual-in_err-after-in-None.result
    c.from_residual-in_err-after-in-None.ensures.1 in
    rw p.1 (lacks_opened title _ is done (length c.args.bytes.now) (length c.in_ok-done-in-None.rest.now) c.args.at
    c.in_ok-done-in-None.end (title_len (h.Array (Some done))) done (length c.args.out.now)
    (length title + length c.args.bytes.now) (length c.args.spans.now) p.0 (title_grows Array done) (omega arith)
    (rw c.in-None.is at c.in_ok-done-in-None.ensures.room)
    (rw c.rewrite_items-in-None.auto.out at c.in_err-after-in-None.ensures.room))

pub rewrite_map-returns-in_ok-rest-in-Some-clause-room : goal.rewrite_map-returns-in_ok-rest-in-Some-clause-room
rewrite_map-returns-in_ok-rest-in-Some-clause-room t c = λ title is.
    grows_titled title (h.Map (Some c.in-Some.told)) (rw c.in-Some.is at is) (2 * c.in_ok-rest-in-Some.field-0-0)
    (length c.args.bytes.now) (length c.in_ok-rest-in-Some.rest.now) (length c.in_ok-rest-in-Some.rest.now + 0) c.args.at
    c.in_ok-start-in-Some.start c.in_ok-rest-in-Some.end (omega arith)
    (adds_reach _ c.args.at _ c.args.out.now _ c.requires c.in_ok-start-in-Some.ensures.written)
    c.in_ok-rest-in-Some.ensures.room

pub rewrite_map-returns-in_err-rest-in-Some-clause-room : goal.rewrite_map-returns-in_err-rest-in-Some-clause-room
rewrite_map-returns-in_err-rest-in-Some-clause-room t c = λ title is.
    let p = err_from_is_err_and c.from_residual-in_err-rest-in-Some.result
    c.from_residual-in_err-rest-in-Some.ensures.1 in
    rw (p.1, p.2) (lacks_titled title (h.Map (Some c.in-Some.told)) (rw c.in-Some.is at is)
    (length c.args.bytes.now) c.args.at c.in_ok-start-in-Some.start (length c.args.out.now)
    (1 + length c.args.bytes.now) (length c.args.spans.now) _ (adds_reach _ c.args.at _ c.args.out.now _ c.requires
    c.in_ok-start-in-Some.ensures.written) (omega arith) (rw c.put_title.auto.out at c.in_err-rest-in-Some.ensures.room))

pub rewrite_map-returns-in_ok-after-in-None-clause-room : goal.rewrite_map-returns-in_ok-after-in-None-clause-room
rewrite_map-returns-in_ok-after-in-None-clause-room t c = λ title is.
    let done = c.in_ok-done-in-None.done in
    grows_opened title _ is (2 * done) (length c.args.bytes.now) (length c.in_ok-done-in-None.rest.now) c.args.at
    c.in_ok-done-in-None.end c.in_ok-after-in-None.after (title_len (h.Map (Some done))) done (title_grows Map done)
    (omega arith) (rw c.in-None.is at c.in_ok-done-in-None.ensures.room) c.in_ok-after-in-None.ensures.reach

pub rewrite_map-returns-in_err-after-in-None-clause-room : goal.rewrite_map-returns-in_err-after-in-None-clause-room
rewrite_map-returns-in_err-after-in-None-clause-room t c = λ title is.
    let done = c.in_ok-done-in-None.done in
    let p = err_from_is_err_and c.from_residual-in_err-after-in-None.result
    c.from_residual-in_err-after-in-None.ensures.1 in
    rw p.1 (lacks_opened title _ is (2 * done) (length c.args.bytes.now) (length c.in_ok-done-in-None.rest.now) c.args.at
    c.in_ok-done-in-None.end (title_len (h.Map (Some done))) done (length c.args.out.now)
    (length title + length c.args.bytes.now) (length c.args.spans.now) p.0 (title_grows Map done) (omega arith)
    (rw c.in-None.is at c.in_ok-done-in-None.ensures.room)
    (rw c.rewrite_sorted-in-None.auto.out at c.in_err-after-in-None.ensures.room))

pub rewrite_sorted-returns-in_err-after-clause-room : goal.rewrite_sorted-returns-in_err-after-clause-room
rewrite_sorted-returns-in_err-after-clause-room t c =
    let p = err_from_is_err_and c.from_residual-in_err-after.result c.from_residual-in_err-after.ensures.1 in
    let g = c.in_ok-done.ensures.written in
    let placed = pairs_placed c.args.depth c.in_ok-done.done c.args.count c.args.bytes.now c.in_ok-done.rest.now c.args.at
    c.in_ok-done.end c.args.out.now c.rewrite_pairs.new.out c.rewrite_pairs.new.spans c.requires g in
    rw (p.1, p.2) (λ is r q. lacks_order _ _ _ _ _ _ _ _ c.in_ok-done.ensures.room
    (rw c.rewrite_pairs.auto.spans at (c.in_err-after.ensures.room is g.entries placed)) is r q)

pub rewrite_sorted-returns-clause-room : goal.rewrite_sorted-returns-clause-room
rewrite_sorted-returns-clause-room t c =
    let g = c.in_ok-done.ensures.written in
    let placed = pairs_placed c.args.depth c.in_ok-done.done c.args.count c.args.bytes.now c.in_ok-done.rest.now c.args.at
    c.in_ok-done.end c.args.out.now c.rewrite_pairs.new.out c.rewrite_pairs.new.spans c.requires g in
    rw (order_reach g.entries c.args.at c.in_ok-done.end c.in_ok-after.after c.args.out.now c.rewrite_pairs.new.out
    c.order_pairs.new.out c.requires g.wrote (c.in_ok-after.ensures.ordered g.entries
    (keys_there c.args.depth g.turns.pairs g.entries g.turns.are) placed)) c.in_ok-done.ensures.room
