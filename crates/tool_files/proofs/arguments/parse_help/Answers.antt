use Rattle.std.proofs.Common.{rules, ◌≡◌, codes, refl}
use Rattle.tool_files.specs.Arguments.{IsHelpWord, topic, version}
use Rattle.tool_files.proofs.ArgumentLaws.{empty_of, no_topic}
use Rattle.tool_files.proofs.arguments.parse_help.Goals as goal

pub returns-in-None-clause-ok : goal.returns-in-None-clause-ok
returns-in-None-clause-ok c =
    let is : c.args.first.now ≡ codes "--version" = search rules in
    λ files. version is (empty_of c.args.words.now c.in-None.ensures.cases) refl

pub returns-in-Ok-clause-ok : goal.returns-in-Ok-clause-ok
returns-in-Ok-clause-ok c =
    let is : IsHelpWord c.args.first.now = search rules in
    λ files. topic c.in-Ok.topic is c.in-Ok.ensures.ok refl

pub returns-in-Err-clause-err : goal.returns-in-Err-clause-err
returns-in-Err-clause-err c =
    let no_version : c.args.first.now ≡ codes "--version" → ⊥ = search rules in
    λ wanted asks. no_topic c.args.first.now c.args.words.now wanted no_version c.in-Err.ensures.err asks
