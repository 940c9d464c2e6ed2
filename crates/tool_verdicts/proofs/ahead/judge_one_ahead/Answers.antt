use Rattle.tool_verdicts.proofs.AheadLaws.{says_alone, says_no_item}
use Rattle.tool_verdicts.proofs.ahead.judge_one_ahead.Goals as goal

pub returns-in-Err : goal.returns-in-Err
returns-in-Err g c =
    let stops = rw (c.offset-start.ensures.same, c.in-Err.is) at c.skip_items-behind.ensures.skipped in
    says_no_item _ c.args.depth 512 c.args.decoder c.offset-place.new.self _ c.in-Err.error _
    (rw c.offset-place.ensures.same stops) (rw c.offset-place.ensures.same c.offset-place.ensures.value)
    c.fault_of.ensures

pub returns : goal.returns
returns g c =
    let reads = rw (c.offset-start.ensures.same, c.in_default.is) at c.skip_items-behind.ensures.skipped in
    let new = c.offset-stop.new.self in
    let pulls = rw (← c.offset-stop.ensures.same, c.offset-place.ensures.same) at c.pull-pulled.ensures.header in
    says_alone _ c.args.depth 512 c.args.decoder new _ c.offset-start.result c.offset-place.result c.offset-stop.result
    c.skip_items-behind.result.0 c.pull-pulled.result c.answer_end-answer.result reads pulls c.answer_end-answer.ensures
    c.offset-start.ensures.value c.offset-place.ensures.value (rw c.offset-stop.ensures.same c.offset-stop.ensures.value)
    c.single_verdict.ensures
