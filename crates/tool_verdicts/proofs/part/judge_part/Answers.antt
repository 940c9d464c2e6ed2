use Rattle.cbor_skip.specs.Skipping.{StopsCounted}
use Rattle.cbor_dump.specs.Counted.{SkipsFewItems}
use Rattle.tool_verdicts.specs.Parts.{few, found_few, rest}
use Rattle.tool_verdicts.proofs.PartLaws.{few_found, rest_found}
use Rattle.tool_verdicts.proofs.part.judge_part.Goals as goal

pub returns-in-Err-clause-told : goal.returns-in-Err-clause-told
returns-in-Err-clause-told g c = λ due ready.
    let told : SkipsFewItems g.R.Read c.args.skip c.args.depth due c.args.decoder.now c.in-Err.error
    c.skip_items.new.decoder = c.in-Err.ensures.told due ready in
    found_few told.fewer (rw (c.fault_of.ensures, c.offset.ensures.value)
    (few_found g.R.Read c.args.depth c.args.skip due c.args.decoder.now c.skip_items.new.decoder c.in-Err.error told))

pub returns-in-Err-clause-says : goal.returns-in-Err-clause-says
returns-in-Err-clause-says g c =
    let stops : StopsCounted g.R.Read c.args.skip c.args.depth 512 c.args.decoder.now c.in-Err.error c.offset.new.self =
    rw c.offset.ensures.same c.in-Err.ensures.skipped in
    few c.in-Err.error stops (rw c.offset.ensures.same (rw c.offset.ensures.value at c.fault_of.ensures))

pub returns-in-Some-clause-told : goal.returns-in-Some-clause-told
returns-in-Some-clause-told g c = λ due ready.
    rest_found g.R.Read c.args.skip c.args.most c.args.one c.args.depth 512 c.args.decoder.now c.skip_items.new.decoder
    due ready c.in_default.ensures.skipped c.judge_some.result
    (λ ahead still. rw c.in-Some.is (rw c.in-Some.is at (c.judge_some.ensures.told ahead still)))

pub returns-in-Some-clause-says : goal.returns-in-Some-clause-says
returns-in-Some-clause-says g c =
    rest c.skip_items.new.decoder
    (record { reads = c.in_default.ensures.skipped; none = c.in_default.ensures.none })
    (rw c.in-Some.is (rw c.in-Some.is at c.judge_some.ensures.says))

pub returns-in-None-clause-told : goal.returns-in-None-clause-told
returns-in-None-clause-told g c = λ due ready.
    rest_found g.R.Read c.args.skip c.args.most c.args.one c.args.depth 512 c.args.decoder.now c.skip_items.new.decoder
    due ready c.in_default.ensures.skipped c.judge.result
    (λ ahead still. rw c.in-None.is (c.judge.ensures.told ahead still))

pub returns-in-None-clause-says : goal.returns-in-None-clause-says
returns-in-None-clause-says g c =
    rest c.skip_items.new.decoder
    (record { reads = c.in_default.ensures.skipped; none = c.in_default.ensures.none })
    (rw c.in-None.is c.judge.ensures.says)
