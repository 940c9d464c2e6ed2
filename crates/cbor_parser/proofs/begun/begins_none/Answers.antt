use Rattle.std.proofs.Common.{rules, sym, ◌∙◌}
use Rattle.ciborium_ll_grammar.proofs.SpellingLaws.{any_allowed, only_shortest}
use Rattle.cbor_parser.proofs.LongerBegun.{any_some, longer_none, strict_some}
use Rattle.cbor_parser.proofs.begun.begins_none.Goals as goal

pub returns-then-is_shortest-clause-yes : goal.returns-then-is_shortest-clause-yes
returns-then-is_shortest-clause-yes c = λ yes.
    let allowed = only_shortest c.args.spelling (sym c.is_shortest.ensures ∙ c.if-is_shortest.true) in
    rw allowed (longer_none c.args.bytes.now c.requires.some (c.begins_longer.ensures.yes yes))

pub returns-then-is_shortest-clause-no : goal.returns-then-is_shortest-clause-no
returns-then-is_shortest-clause-no c = λ no.
    let allowed = only_shortest c.args.spelling (sym c.is_shortest.ensures ∙ c.if-is_shortest.true) in
    rw allowed (strict_some c.args.bytes.now (search rules) c.requires.some c.requires.cut
    (λ longer. let yes = c.begins_longer.ensures.no longer in absurd cc))

pub returns-else-is_shortest-clause-no : goal.returns-else-is_shortest-clause-no
returns-else-is_shortest-clause-no c = λ no.
    any_some c.args.spelling c.args.bytes.now (any_allowed c.args.spelling
    (sym c.is_shortest.ensures ∙ c.if-is_shortest.false))
    (search rules) c.requires.some c.requires.cut
