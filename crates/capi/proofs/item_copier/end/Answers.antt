use Rattle.std.proofs.Common.{◌∙◌, sym, rules}
use Rattle.capi.proofs.ItemPieceLaws.{ends}
use Rattle.capi.proofs.item_copier.end.Goals as goal

pub returns-clause-ended : goal.returns-clause-ended
returns-clause-ended c = λ allowed depth read written kept.
    let was = (c.load_into.ensures.kept allowed depth read written kept).1 in
    ends allowed depth read written c.end.result c.told_end-told.result.1 c.told_end-told.result.0 c.say-2.new.self _
    was
    c.end.ensures.is (c.end.ensures.tells allowed depth read written was) c.told_end-told.ensures.answer
    c.told_end-told.ensures.number c.say-2.ensures

pub returns-then-not-load_into-clause-ended : goal.returns-then-not-load_into-clause-ended
returns-then-not-load_into-clause-ended c = λ allowed depth read written kept.
    let loaded = c.load_into.ensures.kept allowed depth read written kept in
    let both = sym c.if-not-load_into.true ∙ loaded.0 in absurd cc

pub returns-clause-argument : goal.returns-clause-argument
returns-clause-argument c = λ none. absurd (none (c.load_into.ensures.some (search rules)))
