use Rattle.ciborium_ll_grammar.proofs.TitleLaws.{IsTitle-shortest, shortest_or_longer}
use Rattle.ciborium_ll_laws.proofs.titles.shortest_titles.Goals as goal

pub returns-clause-is_title : goal.returns-clause-is_title
returns-clause-is_title c = IsTitle-shortest

pub returns-clause-is_shortest : goal.returns-clause-is_shortest
returns-clause-is_shortest c = shortest_or_longer
