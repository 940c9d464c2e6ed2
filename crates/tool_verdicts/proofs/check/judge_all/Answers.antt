use Rattle.tool_verdicts.proofs.FoundLaws.{sequence_found, sequence_well}
use Rattle.tool_verdicts.proofs.check.judge_all.Goals as goal

pub returns-clause-told : goal.returns-clause-told
returns-clause-told g c = λ due ready.
    rw (c.sequence_verdict.ensures, c.offset.ensures.value)
    (sequence_found g.R.Read c.args.depth due c.args.decoder.now c.check-answer.new.decoder c.check-answer.result
    (c.check-answer.ensures.told due ready))

pub returns-clause-says : goal.returns-clause-says
returns-clause-says g c = rw c.offset.ensures.same (record {
  answer = c.check-answer.result;
  checks = c.check-answer.ensures.checks;
  said = rw c.offset.ensures.value at c.sequence_verdict.ensures;
})

pub returns-clause-exactly : goal.returns-clause-exactly
returns-clause-exactly g c = λ due ready.
    rw c.sequence_verdict.ensures (sequence_well c.check-answer.result _ _ (c.check-answer.ensures.exactly due ready))
