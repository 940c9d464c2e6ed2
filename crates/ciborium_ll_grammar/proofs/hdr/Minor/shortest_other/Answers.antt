use Rattle.ciborium_ll_grammar.proofs.PartsLaws.{keeps_other, shortens_simple}
use Rattle.ciborium_ll_grammar.proofs.hdr.Minor.shortest_other.Goals as goal

pub returns-in_default : goal.returns-in_default
returns-in_default c =
    record {
      minor = c.requires;
      bytes = λ header title. keeps_other c.args.self header c.requires c.in_default.not-Small c.in_default.not-One
          title;
    }

pub returns-in-Small-clause-bytes : goal.returns-in-Small-clause-bytes
returns-in-Small-clause-bytes c = λ header title.
    shortens_simple c.args.self c.holding.result c.in-Small.n header c.requires c.in-Small.is c.holding.ensures.code
    c.holding.ensures.affix title
