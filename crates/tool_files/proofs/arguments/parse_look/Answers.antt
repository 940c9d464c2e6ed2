use Rattle.std.proofs.Common.{refl, rules}
use Rattle.tool_files.specs.Arguments.{AsksWith, choices_of, default_choices, look, texts}
use Rattle.tool_files.proofs.ArgumentLaws.{refused_asks_nothing}
use Rattle.tool_files.proofs.arguments.parse_look.Goals as goal

pub returns-in-Some-clause-err : goal.returns-in-Some-clause-err
returns-in-Some-clause-err c =
    let asks : AsksWith c.args.word default_choices c.args.words.now
    (look (choices_of c.take.new.self) (texts c.take.new.files.items)) = search rules in
    refused_asks_nothing c.args.word c.args.words.now (choices_of c.take.new.self) (texts c.take.new.files.items) asks
    (rw c.in-Some.is at c.refusal.ensures.some refl)
