use Rattle.ciborium_ll_grammar.proofs.AffixLaws.{cut_begins, cut_before}
use Rattle.ciborium_ll_laws.proofs.titles.cut_titles.Goals as goal

pub returns-clause-begins : goal.returns-clause-begins
returns-clause-begins c s f cut = let b = cut_begins s f cut in (b.byte, b.more, b.header, b.title)

pub returns-clause-cut : goal.returns-clause-cut
returns-clause-cut c s byte more h t = cut_before s byte more h t
