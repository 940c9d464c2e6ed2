use Rattle.std.proofs.Common.{rules, sym, ◌∙◌}
use Rattle.ciborium_ll_grammar.proofs.SpellingLaws.{any_allowed, only_shortest}
use Rattle.cbor_parser.proofs.TakenLaws.{longer_title, none_means, some_taken}
use Rattle.cbor_parser.proofs.title.taken_header.Goals as goal
use Rattle.cbor_parser.proofs.title.taken_header.Goals.{}
use Rattle.cbor_parser.proofs.title.taken_header.Goals.{else-is_shortest-via-then-is_shortest+else-is_refused_when_strict}
use Rattle.cbor_parser.proofs.title.taken_header.Goals.{else-is_shortest-via-else-is_shortest}

pub returns-then-is_refused_when_strict-clause-none : goal.returns-then-is_refused_when_strict-clause-none
returns-then-is_refused_when_strict-clause-none c =
    let allowed = only_shortest c.args.spelling (sym c.is_shortest.ensures ∙ c.if-is_shortest.true) in
    rw allowed (longer_title c.in_ok-title.title.major c.in_ok-title.title.minor c.args.bytes.now (search rules)
    (search rules) (search rules) c.in_ok-title.ensures.bytes)

pub returns-clause-taken : goal.returns-clause-taken
returns-clause-taken c =
    some_taken c.header.result c.args.spelling c.in_ok-title.title.major c.in_ok-title.title.minor
    c.args.bytes.now (search rules) (search rules) (λ shortest. elim c.else-is_shortest.branch [
      | else-is_shortest-via-then-is_shortest+else-is_refused_when_strict w ↦ search rules
      | else-is_shortest-via-else-is_shortest w ↦ absurd
          (let any = any_allowed c.args.spelling (sym c.is_shortest.ensures ∙ w.if-is_shortest.false) in cc)
    ]) c.in_ok-title.ensures.bytes c.header.ensures.some

pub returns-clause-none : goal.returns-clause-none
returns-clause-none c =
    none_means _ _ c.in_ok-title.title.major c.in_ok-title.title.minor _ c.in_ok-title.ensures.bytes
    c.header.ensures.none
