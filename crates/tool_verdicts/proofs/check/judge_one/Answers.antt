use Rattle.tool_verdicts.proofs.FoundLaws.{single_found}
use Rattle.tool_verdicts.proofs.check.judge_one.Goals as goal

pub returns-clause-told : goal.returns-clause-told
returns-clause-told g c = λ due ready.
    rw (c.single_verdict.ensures, c.offset.ensures.value)
    (single_found g.R.Read c.args.depth due c.args.decoder.now c.check_one-answer.new.decoder c.check_one-answer.result
    (c.check_one-answer.ensures.told due ready))
