use Rattle.std.proofs.Common.{refl}
use Rattle.cbor_parser.specs.Parsing.{point_of}
use Rattle.capi.proofs.parser.cll_parser_end.Goals as goal

pub returns-in_default-clause-ended : goal.returns-in_default-clause-ended
returns-in_default-clause-ended c = λ allowed bytes tokens kept.
    absurd (c.in_default.ensures.kept allowed bytes tokens kept)

pub returns-clause-ended : goal.returns-clause-ended
returns-clause-ended c = λ allowed bytes tokens kept.
    let was = c.in-Some.ensures.kept allowed bytes tokens kept in
    let said = c.say-2.ensures in (
      c.told_end-answer.result.0,
      c.code-2.ensures,
      record {
        point = point_of c.in-Some.restored;
        parsed = was.parsed;
        says = rw said.place_is (c.told_end-answer.ensures allowed bytes tokens was);
        reports = record {
          consumed_is = said.consumed_is;
          written_is = said.written_is;
          place_is = refl;
          none_counted = said.none_counted;
          none_whole = said.none_whole;
          none_spelled = said.none_spelled;
        };
      },
    )
