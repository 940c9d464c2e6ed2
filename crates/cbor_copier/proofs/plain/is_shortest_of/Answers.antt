use Rattle.std.proofs.Common.{rules}
use Rattle.cbor_copier.proofs.LeastLaws.{least_stays}
use Rattle.cbor_copier.proofs.plain.is_shortest_of.Goals as goal

pub returns-clause-yes : goal.returns-clause-yes
returns-clause-yes c = λ yes.
    least_stays c.args.front.now c.from_be_bytes-word.result c.affix_number.result c.least_of.result
    (search rules) c.from_be_bytes-word.ensures c.affix_number.ensures.one
    c.affix_number.ensures.two c.affix_number.ensures.four c.affix_number.ensures.eight c.least_of.ensures
    (search rules)
