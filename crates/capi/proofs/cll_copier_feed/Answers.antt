use Rattle.capi.proofs.cll_copier_feed.Goals as goal

pub returns-clause-fed : goal.returns-clause-fed
returns-clause-fed c = λ allowed count read written kept.
    (c.feed.result, c.code.ensures, c.feed.ensures.fed allowed count read written kept)
