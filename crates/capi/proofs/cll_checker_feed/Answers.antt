use Rattle.capi.proofs.cll_checker_feed.Goals as goal

pub returns-clause-fed : goal.returns-clause-fed
returns-clause-fed c = λ allowed depth read kept.
    (c.feed.result, c.code.ensures, c.feed.ensures.fed allowed depth read kept)
