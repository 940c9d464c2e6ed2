use Rattle.std.proofs.Common.{◌∙◌, rules}
use Rattle.cbor_checker.proofs.EndLaws.{same_end}
use Rattle.capi.proofs.checker.end.Goals as goal

pub returns-clause-ended : goal.returns-clause-ended
returns-clause-ended c = λ allowed depth read kept.
    let was = c.in-Some.ensures.kept allowed depth read kept in
    let told = c.told_end-told.ensures in
    record {
      says = search (rules, c.end.ensures.tells allowed depth read was);
      answers = λ checker has_read. (
        c.end.result,
        same_end allowed depth read _ checker c.end.result was has_read c.end.ensures.is,
        told.answer,
        c.say-2.ensures.place_is ∙ told.number,
      );
      reports = search rules;
    }

pub returns-clause-argument : goal.returns-clause-argument
returns-clause-argument c = λ none. absurd (none c.in-Some.ensures.some)
