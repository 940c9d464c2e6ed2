use Rattle.std.proofs.Common.{◌∙◌, refl}
use Rattle.capi.proofs.skip_or_due.Goals as goal

pub returns-in-Short-clause-due : goal.returns-in-Short-clause-due
returns-in-Short-clause-due c = λ same. c.due_behind.ensures

pub returns-clause-skipped : goal.returns-clause-skipped
returns-clause-skipped c =
    let said = c.say.ensures in (
      c.in-Some.ensures.0,
      record {
        consumed_is = said.consumed_is ∙ c.in-Some.ensures.1;
        written_is = said.written_is;
        place_is = said.place_is;
        none_counted = said.none_counted;
        none_whole = said.none_whole;
        none_spelled = said.none_spelled;
      },
    )

pub returns-clause-exactly : goal.returns-clause-exactly
returns-clause-exactly c = (λ same. c.in-Some.ensures.0, λ front. refl)
