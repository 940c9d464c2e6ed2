use Rattle.std.proofs.Common.{refl, subst}
use Rattle.ciborium_ll_grammar.specs.declared.spelling.Spelling.{Spelling}
use Rattle.cbor_dump.specs.Takings.{AnswersTitle}
use Rattle.cbor_dump.proofs.fronts.title_header.Goals as goal

pub returns : goal.returns
returns c = λ first affix parts long.
    let fresh = c.with_spelling.ensures in
    subst (λ (z : Spelling). AnswersTitle z c.args.title.now c.whole_header.result) fresh.mode
    (c.whole_header.ensures first affix c.args.title.now refl fresh.offset
    fresh.none_waits (rw (fresh.none_waits, fresh.reader) c.new.ensures.ahead) parts long)
