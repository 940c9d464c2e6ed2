use Rattle.capi.proofs.cll_checker_end.Goals as goal

pub returns-clause-ended : goal.returns-clause-ended
returns-clause-ended c = λ allowed depth read kept.
    (c.end.result, c.code.ensures, c.end.ensures.ended allowed depth read kept)
