use Rattle.std.proofs.Common.{◌≡◌, suc, ◌+◌, ◌-◌, ◌<◌, true, false, length, refl, arith, rules}
use Rattle.ciborium_ll_grammar.specs.declared.hdr.Header.TheVariants.{Break}
use Rattle.cbor_skip.specs.Due.{may_close}
use Rattle.cbor_skip.proofs.ItemRuns.{as_item, counted_within, rest_read}
use Rattle.cbor_skip.proofs.ItemSteps.{pull_stops}
use Rattle.cbor_ahead.proofs.PassLaws.{ends_open, item_rises, more_counted, none_counted, one_counted, stops_counted}
use Rattle.cbor_ahead.proofs.PassLaws.{stops_open}
use Rattle.cbor_ahead.proofs.skip.+nests.Goals as goal

-- ---- items in a row

pub skip_items-items-init : goal.skip_items-items-init
skip_items-items-init g t c = record {
  done = 0;
  counted = omega arith;
  reads = none_counted _ c.args.depth c.args.decoder;
  same = λ zero. refl;
}

pub skip_items-items-preserved : goal.skip_items-items-preserved
skip_items-items-preserved g t c =
    let i = c.items.invariant in
    let taken = c.pass_items-passed.result.1 in
    let passed = c.pass_items-passed.result.0 in
    let read = more_counted _ c.args.depth i.done taken c.args.decoder c.items.decoder passed i.reads
    c.pass_items-passed.ensures.reads in
    let item = rw c.in_default.is at c.skip_one-next.ensures.skipped in
    record {
      done = i.done + taken + 1;
      counted = omega (arith, i.counted, c.if-left-eq0.false, c.pass_items-passed.ensures.most);
      reads = one_counted _ c.args.depth (i.done + taken) c.args.decoder passed c.skip_one-next.result.0 read item;
      same = λ zero. absurd (omega (arith, zero));
    }

pub skip_items-returns-then-left-eq0-clause-skipped : goal.skip_items-returns-then-left-eq0-clause-skipped
skip_items-returns-then-left-eq0-clause-skipped g t c =
    let i = c.items.invariant in
    let taken = c.pass_items-passed.result.1 in
    let all : i.done + taken ≡ c.args.count =
    omega (arith, i.counted, c.if-left-eq0.true, c.pass_items-passed.ensures.most) in
    rw (← all) (more_counted _ c.args.depth i.done taken c.args.decoder c.items.decoder c.pass_items-passed.result.0
    i.reads c.pass_items-passed.ensures.reads)

pub skip_items-returns-then-left-eq0-clause-none : goal.skip_items-returns-then-left-eq0-clause-none
skip_items-returns-then-left-eq0-clause-none g t c = λ zero.
    absurd (omega (arith, zero, c.items.invariant.counted, c.items-test.true))

pub skip_items-returns-in-Err-clause-skipped : goal.skip_items-returns-in-Err-clause-skipped
skip_items-returns-in-Err-clause-skipped g t c =
    let i = c.items.invariant in
    let taken = c.pass_items-passed.result.1 in
    let passed = c.pass_items-passed.result.0 in
    let read = more_counted _ c.args.depth i.done taken c.args.decoder c.items.decoder passed i.reads
    c.pass_items-passed.ensures.reads in
    let less : i.done + taken < c.args.count =
    omega (arith, i.counted, c.if-left-eq0.false, c.pass_items-passed.ensures.most) in
    stops_counted _ c.args.depth (length c.args.buffer.now) (i.done + taken) c.args.count c.args.decoder passed
    c.skip_one-next.result.0 c.in-Err.error read less
    (rw (c.in-Err.is, c.items.auto.buffer) at c.skip_one-next.ensures.skipped)

pub skip_items-returns-in-Err-clause-none : goal.skip_items-returns-in-Err-clause-none
skip_items-returns-in-Err-clause-none g t c = λ zero.
    absurd (omega (arith, zero, c.items.invariant.counted, c.items-test.true))

pub skip_items-returns-clause-skipped : goal.skip_items-returns-clause-skipped
skip_items-returns-clause-skipped g t c =
    let i = c.items.invariant in
    let all : i.done ≡ c.args.count = omega (arith, i.counted, c.items-test.false) in
    rw (← all) i.reads

pub skip_items-returns-clause-none : goal.skip_items-returns-clause-none
skip_items-returns-clause-none g t c = λ zero.
    c.items.invariant.same (omega (arith, c.items.invariant.counted, zero))

-- ---- one item

pub skip_one-returns-in-Err : goal.skip_one-returns-in-Err
skip_one-returns-in-Err g t c = record {
  skipped = pull_stops _ c.offset-place.ensures.same (rw c.in-Err.is at c.pull.ensures.header);
}

pub skip_one-returns : goal.skip_one-returns
skip_one-returns g t c =
    let pulls = rw (c.offset-place.ensures.same, c.in-Ok.is) at c.pull.ensures.header in
    let moves = rw c.offset-place.ensures.same at c.pull.ensures.moves_on in
    record {
      skipped = as_item _ c.args.depth (length c.args.buffer.now) c.args.decoder c.skip_rest.result.0
          c.skip_rest.result.1 (c.skip_rest.ensures.skipped false c.args.decoder pulls moves
          c.offset-place.ensures.value (λ is. refl));
    }

-- ---- the rest of an item

pub skip_rest-returns-in-Some : goal.skip_rest-returns-in-Some
skip_rest-returns-in-Some g t c =
    let level : suc (c.args.depth - 1) ≡ c.args.depth = omega (arith, c.if-depth-gt0.true) in
    let counted = rw c.in-Some.is at c.items_after.ensures in
    record {
      skipped = λ closable before pulled moves at stays.
          rest_read _ closable (length c.args.buffer.now) level pulled moves c.skip_items.result.1
          c.skip_items.result.0 (counted_within _ c.args.header c.in-Some.count _ _ c.args.decoder counted
          c.skip_items.result.1 c.skip_items.result.0 c.skip_items.ensures.skipped);
    }

pub skip_rest-returns-in-Array-None : goal.skip_rest-returns-in-Array-None
skip_rest-returns-in-Array-None g t c =
    let level : suc (c.args.depth - 1) ≡ c.args.depth = omega (arith, c.if-depth-gt0.true) in
    record {
      skipped = λ closable before pulled moves at stays.
          rest_read _ closable (length c.args.buffer.now) level pulled moves c.skip_open.result.1 c.skip_open.result.0
          c.skip_open.ensures.skipped;
    }

-- ---- a nest of indefinite length

pub skip_open-items-init : goal.skip_open-items-init
skip_open-items-init g t c = record {
  done = 0;
  parity = refl;
  reads = none_counted _ c.args.depth c.args.decoder;
}

pub skip_open-returns-in-Err : goal.skip_open-returns-in-Err
skip_open-returns-in-Err g t c =
    let i = c.items.invariant in
    let taken = c.pass_items-passed.result.1 in
    let passed = c.pass_items-passed.result.0 in
    let read = more_counted _ c.args.depth i.done taken c.args.decoder c.items.decoder passed i.reads
    c.pass_items-passed.ensures.reads in
    record {
      skipped = stops_open _ c.args.depth (length c.args.buffer.now) (i.done + taken) c.args.decoder passed _
          c.args.header _ c.requires.nest c.requires.open read
          (pull_stops _ c.offset-place.ensures.same (rw c.in-Err.is at c.pull.ensures.header));
    }

pub skip_open-returns-in-items : goal.skip_open-returns-in-items
skip_open-returns-in-items g t c =
    let i = c.items.invariant in
    let taken = c.pass_items-passed.result.1 in
    let passed = c.pass_items-passed.result.0 in
    let read = more_counted _ c.args.depth i.done taken c.args.decoder c.items.decoder passed i.reads
    c.pass_items-passed.ensures.reads in
    let may : may_close c.args.header (i.done + taken) ≡ true = search rules in
    let pulls = rw (c.offset-place.ensures.same, c.in-Ok.is, c.in-Break.is) at c.pull.ensures.header in
    let moves = rw c.offset-place.ensures.same at c.pull.ensures.moves_on in
    record {
      skipped = ends_open _ c.args.depth (i.done + taken) c.args.decoder passed _ c.args.header may read pulls
          moves.steady;
    }

pub skip_open-returns-in-Err-outcome : goal.skip_open-returns-in-Err-outcome
skip_open-returns-in-Err-outcome g t c =
    let i = c.items.invariant in
    let taken = c.pass_items-passed.result.1 in
    let passed = c.pass_items-passed.result.0 in
    let read = more_counted _ c.args.depth i.done taken c.args.decoder c.items.decoder passed i.reads
    c.pass_items-passed.ensures.reads in
    let pulls = rw (c.offset-place.ensures.same, c.in-Ok.is) at c.pull.ensures.header in
    let moves = rw c.offset-place.ensures.same at c.pull.ensures.moves_on in
    let stays : c.in-Ok.next ≡ Break → may_close c.args.header (i.done + taken) ≡ false = search rules in
    let stops = c.skip_rest-after.ensures.skipped (may_close c.args.header (i.done + taken)) passed pulls moves
    c.offset-place.ensures.value stays in
    record {
      skipped = stops_open _ c.args.depth (length c.args.buffer.now) (i.done + taken) c.args.decoder passed _
          c.args.header _ c.requires.nest c.requires.open read (rw (c.in-Err-outcome.is, c.items.auto.buffer) at stops);
    }

pub skip_open-items-smaller : goal.skip_open-items-smaller
skip_open-items-smaller g t c =
    let passed = c.pass_items-passed.result.0 in
    let pulls = rw (c.offset-place.ensures.same, c.in-Ok.is) at c.pull.ensures.header in
    let moves = rw c.offset-place.ensures.same at c.pull.ensures.moves_on in
    let item = rw c.in_default-2.is at (c.skip_rest-after.ensures.skipped false passed pulls moves
    c.offset-place.ensures.value (λ is. refl)) in
    omega (
      arith,
      item_rises _ c.args.depth passed c.skip_rest-after.result.0 item,
      c.pass_items-passed.ensures.reads.passed.offset,
      c.skip_rest-after.result.0.covered,
    )

pub skip_open-items-preserved : goal.skip_open-items-preserved
skip_open-items-preserved g t c =
    let i = c.items.invariant in
    let taken = c.pass_items-passed.result.1 in
    let passed = c.pass_items-passed.result.0 in
    let read = more_counted _ c.args.depth i.done taken c.args.decoder c.items.decoder passed i.reads
    c.pass_items-passed.ensures.reads in
    let pulls = rw (c.offset-place.ensures.same, c.in-Ok.is) at c.pull.ensures.header in
    let moves = rw c.offset-place.ensures.same at c.pull.ensures.moves_on in
    let item = rw c.in_default-2.is at (c.skip_rest-after.ensures.skipped false passed pulls moves
    c.offset-place.ensures.value (λ is. refl)) in
    record {
      done = i.done + taken + 1;
      parity = omega (arith, i.parity);
      reads = one_counted _ c.args.depth (i.done + taken) c.args.decoder passed c.skip_rest-after.result.0 read item;
    }
