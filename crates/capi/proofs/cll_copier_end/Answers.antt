use Rattle.capi.proofs.cll_copier_end.Goals as goal

pub returns-clause-ended : goal.returns-clause-ended
returns-clause-ended c = λ allowed count read written kept.
    (c.end.result, c.code.ensures, c.end.ensures.ended allowed count read written kept)
