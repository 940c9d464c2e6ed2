use Rattle.std.proofs.Common.{◌≡◌, ◌+◌, ◌-◌, length, Some, Err, arith, refl, rules}
use Rattle.cbor_skip.specs.Skipping.{ReadsCounted, ReadsItem, SkipsItem, allowed_by}
use Rattle.cbor_ahead.proofs.PassLaws.{more_counted, none_counted, one_counted}
use Rattle.cbor_dump.proofs.ItemRows.{items_counted}
use Rattle.ciborium_ll_buffers.specs.contracts.buffered.BufferedReaderRead.TheImpl.{ghosts}
use Rattle.tool_verdicts.proofs.AheadLaws.{more_most, says_enough, says_stopped, test_fails, within_most}
use Rattle.tool_verdicts.proofs.PartLaws.{below_by, least_of, up_to}
use Rattle.tool_verdicts.proofs.ahead.judge_some_ahead.Goals as goal

pub items-init : goal.items-init
items-init g c = record {
  few = least_of c.args.most;
  reads = rw c.offset-start.ensures.same (none_counted _ c.args.depth c.args.decoder);
  start = c.offset-start.ensures.value;
  buffer = refl;
}

pub overflow_sub-left : goal.overflow_sub-left
overflow_sub-left g c =
    rw c.unwrap_or.ensures (within_most c.args.most _ c.items.items (omega arith) c.items.invariant.few)

pub overflow_add-items : goal.overflow_add-items
overflow_add-items g c = omega (arith, c.pass_items-passed.ensures.most)

pub items-preserved : goal.items-preserved
items-preserved g c =
    let i = c.items.invariant in
    let source = ghosts g.row.T g.T.Read g.T.Read-dict in
    let taken = c.pass_items-passed.result.1 in
    let passed = c.pass_items-passed.result.0 in
    let read = more_counted source c.args.depth c.items.items taken c.args.decoder c.items.decoder passed i.reads
    c.pass_items-passed.ensures.reads in
    let item : ReadsItem source c.args.depth passed c.skip_one-next.result.0 =
    rw c.offset-place.ensures.same at (rw c.in_default.is at c.skip_one-next.ensures.skipped) in
    let few = more_most c.args.most _ c.items.items taken i.few (rw c.unwrap_or.ensures at
    c.pass_items-passed.ensures.most) in
    let other = test_fails c.is_enough.result _ c.is_enough.ensures c.if-is_enough.false in
    record {
      few = up_to c.args.most (c.items.items + taken) (below_by c.args.most (c.items.items + taken) other few);
      reads = one_counted source c.args.depth (c.items.items + taken) c.args.decoder passed c.skip_one-next.result.0
          read item;
      start = i.start;
      buffer = search rules;
    }

pub items-smaller : goal.items-smaller
items-smaller g c =
    let source = ghosts g.row.T g.T.Read g.T.Read-dict in
    let passed = c.pass_items-passed.result.0 in
    let item : ReadsItem source c.args.depth passed c.skip_one-next.result.0 =
    rw c.offset-place.ensures.same at (rw c.in_default.is at c.skip_one-next.ensures.skipped) in
    let some = items_counted (allowed_by passed) c.args.depth 1 item.item item.is_item in
    omega (
      arith,
      some,
      item.passed.offset,
      c.pass_items-passed.ensures.reads.passed.offset,
      c.skip_one-next.result.0.covered,
    )

pub overflow_add-items-in-items : goal.overflow_add-items-in-items
overflow_add-items-in-items g c =
    let i = c.items.invariant in
    let source = ghosts g.row.T g.T.Read g.T.Read-dict in
    let taken = c.pass_items-passed.result.1 in
    let passed = c.pass_items-passed.result.0 in
    let read = more_counted source c.args.depth c.items.items taken c.args.decoder c.items.decoder passed i.reads
    c.pass_items-passed.ensures.reads in
    let item : ReadsItem source c.args.depth passed c.skip_one-next.result.0 =
    rw c.offset-place.ensures.same at (rw c.in_default.is at c.skip_one-next.ensures.skipped) in
    let all : ReadsCounted source (c.items.items + taken + 1) c.args.depth c.args.decoder c.skip_one-next.result.0 =
    one_counted source c.args.depth (c.items.items + taken) c.args.decoder passed c.skip_one-next.result.0 read item in
    let some = items_counted (allowed_by c.args.decoder) c.args.depth (c.items.items + taken + 1) all.items
    all.are_items in
    omega (arith, some, all.passed.offset, c.skip_one-next.result.0.covered)

pub returns-then-is_enough : goal.returns-then-is_enough
returns-then-is_enough g c =
    let i = c.items.invariant in
    let source = ghosts g.row.T g.T.Read g.T.Read-dict in
    let taken = c.pass_items-passed.result.1 in
    let passed = c.pass_items-passed.result.0 in
    let read : ReadsCounted source (c.items.items + taken) c.args.depth c.args.decoder passed =
    more_counted source c.args.depth c.items.items taken c.args.decoder c.items.decoder passed i.reads
    c.pass_items-passed.ensures.reads in
    let is : c.args.most ≡ Some (c.items.items + taken) = c.is_enough.ensures.0 c.if-is_enough.true in
    let bytes : c.offset-place.result - c.offset-start.result ≡ length read.items =
    omega (arith, i.start, c.offset-place.ensures.value, read.passed.offset) in
    says_enough source c.args.depth 512 c.args.most c.args.decoder passed c.offset-place.new.self _
    (c.items.items + taken) (c.offset-place.result - c.offset-start.result) read is c.offset-place.ensures.same refl
    bytes

pub returns-in-Err : goal.returns-in-Err
returns-in-Err g c =
    let i = c.items.invariant in
    let source = ghosts g.row.T g.T.Read g.T.Read-dict in
    let taken = c.pass_items-passed.result.1 in
    let passed = c.pass_items-passed.result.0 in
    let new = c.offset-stop.new.self in
    let read : ReadsCounted source (c.items.items + taken) c.args.depth c.args.decoder passed =
    more_counted source c.args.depth c.items.items taken c.args.decoder c.items.decoder passed i.reads
    c.pass_items-passed.ensures.reads in
    let few = more_most c.args.most _ c.items.items taken i.few (rw c.unwrap_or.ensures at
    c.pass_items-passed.ensures.most) in
    let other = test_fails c.is_enough.result _ c.is_enough.ensures c.if-is_enough.false in
    let fails : SkipsItem source c.args.depth 512 passed (Err c.in-Err.error) new =
    rw c.offset-stop.ensures.same (rw (c.offset-place.ensures.same, c.in-Err.is, i.buffer) at
    c.skip_one-next.ensures.skipped) in
    let bytes : c.offset-place.result - c.offset-start.result ≡ length read.items =
    omega (arith, i.start, c.offset-place.ensures.value, read.passed.offset) in
    says_stopped source c.args.depth 512 c.args.most c.args.decoder passed new c.in-Err.error
    c.verdict_at-verdict.result (c.items.items + taken) (c.offset-place.result - c.offset-start.result)
    c.offset-place.result c.offset-stop.result read
    (below_by c.args.most (c.items.items + taken) other few) fails c.verdict_at-verdict.ensures bytes
    c.offset-place.ensures.value (rw c.offset-stop.ensures.same c.offset-stop.ensures.value)
