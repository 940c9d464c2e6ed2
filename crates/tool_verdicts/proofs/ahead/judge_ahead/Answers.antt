use Rattle.tool_verdicts.specs.Parts.{few, rest}
use Rattle.tool_verdicts.proofs.AheadLaws.{says_all}
use Rattle.tool_verdicts.proofs.ahead.judge_ahead.Goals as goal

pub returns-in-Err : goal.returns-in-Err
returns-in-Err g c =
    let stops = rw c.in-Err.is at c.skip_items-behind.ensures.skipped in
    few c.in-Err.error (rw c.offset.ensures.same stops)
    (rw c.offset.ensures.same (rw c.offset.ensures.value at c.fault_of-verdict.ensures))

pub returns-in-Some : goal.returns-in-Some
returns-in-Some g c =
    let reads = rw c.in_default.is at c.skip_items-behind.ensures.skipped in
    rest c.skip_items-behind.result.0 (record { reads = reads; none = c.skip_items-behind.ensures.none })
    (rw c.in-Some.is (rw c.in-Some.is at c.judge_some_ahead.ensures))

pub returns-in-None : goal.returns-in-None
returns-in-None g c =
    let reads = rw c.in_default.is at c.skip_items-behind.ensures.skipped in
    rest c.skip_items-behind.result.0 (record { reads = reads; none = c.skip_items-behind.ensures.none })
    (rw (c.in-None.is, c.if-one.true) c.judge_one_ahead.ensures)

pub returns-in-None-2 : goal.returns-in-None-2
returns-in-None-2 g c =
    let reads = rw c.in_default.is at c.skip_items-behind.ensures.skipped in
    let behind = c.skip_items-behind.result.0 in
    rest behind (record { reads = reads; none = c.skip_items-behind.ensures.none })
    (rw (c.in-None-2.is, c.if-one.false) (says_all _ c.args.depth 512 behind _ _ c.judge_some_ahead-in-None-2.ensures))
