use Rattle.std.proofs.Common.{inr}
use Rattle.capi.specs.declared.answer.CllAnswer.TheVariants as a
use Rattle.capi.proofs.ParserLaws.{pushes_piece}
use Rattle.capi.proofs.parser.cll_parser_push.Goals as goal

pub returns-in_default-clause-pushed : goal.returns-in_default-clause-pushed
returns-in_default-clause-pushed c = λ allowed before tokens kept.
    absurd (c.in_default.ensures.kept allowed before tokens kept)

pub returns-in_default-clause-some : goal.returns-in_default-clause-some
returns-in_default-clause-some c = λ some. inr (a.Argument, c.code.ensures, tt)

pub returns-clause-pushed : goal.returns-clause-pushed
returns-clause-pushed c = λ allowed before tokens kept.
    let was = c.in-Some.ensures.kept allowed before tokens kept in (
      c.told-answer.result.0,
      c.code-2.ensures,
      pushes_piece allowed before tokens c.args.bytes.now c.push.result c.told-answer.result.0 c.assign-2.new.self
          c.in-Some.restored c.push.new.self c.keep.new.self was (c.push.ensures.pushed allowed before tokens was)
          (λ place at. c.push.ensures.stays place at) (rw c.assign-2.ensures c.told-answer.ensures) c.keep.ensures,
    )
