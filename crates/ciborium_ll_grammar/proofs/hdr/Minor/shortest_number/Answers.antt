use Rattle.std.proofs.Common.{sym, ◌∙◌}
use Rattle.ciborium_ll_grammar.proofs.PartsLaws.{shortens_number}
use Rattle.ciborium_ll_grammar.proofs.hdr.Minor.shortest_number.Goals as goal

pub returns-in-Some-clause-bytes : goal.returns-in-Some-clause-bytes
returns-in-Some-clause-bytes c = λ major header less title.
    shortens_number major c.args.self c.holding.result c.in-Some.n header less c.requires
    (sym c.number.ensures ∙ c.in-Some.is) c.holding.ensures.code c.holding.ensures.affix title
