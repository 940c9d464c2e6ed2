use Rattle.std.proofs.Common.{◌∷◌, ◌∙◌, ap, inr, sym}
use Rattle.tool_files.proofs.ArgumentLaws.{empty_of}
use Rattle.tool_files.proofs.arguments.parse_topic.Goals as goal

pub returns-in-None-clause-ok : goal.returns-in-None-clause-ok
returns-in-None-clause-ok c = inr (
  c.in-Some.name.now,
  c.in-Some.ensures.cases.0 ∙ ap (λ rest. c.in-Some.name.now ∷ rest) (empty_of c.in-Some.more.now
      c.in-None.ensures.cases),
  sym c.as_str.ensures.value ∙ c.in-Some-from_name.ensures.some,
)
