use Rattle.capi.proofs.PieceLaws.{ends}
use Rattle.capi.proofs.copier.end.Goals as goal

pub returns-clause-ended : goal.returns-clause-ended
returns-clause-ended c = λ allowed count read written kept.
    let was = c.in-Some.ensures.kept allowed count read written kept in
    let told = c.end.ensures in
    ends allowed count read written c.end.result c.told_end-told.result.1 c.told_end-told.result.0 c.say-2.new.self
    c.in-Some.restored was told.is (told.tells allowed count read written was) (told.exactly allowed count read written was)
    c.told_end-told.ensures.answer c.told_end-told.ensures.place c.say-2.ensures

pub returns-clause-argument : goal.returns-clause-argument
returns-clause-argument c = λ none. absurd (none c.in-Some.ensures.some)
