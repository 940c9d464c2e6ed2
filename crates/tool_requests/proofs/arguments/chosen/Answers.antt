use Rattle.std.proofs.Common.{rules, ◌≡◌, length, codes}
use Rattle.std.specs.Prelude.{string_bytes}
use Rattle.tool_requests.specs.Number.{IsNumber}
use Rattle.tool_requests.proofs.ArgumentLaws.{two_in_all}
use Rattle.tool_requests.proofs.arguments.chosen.Goals as goal

pub returns-in-Some : goal.returns-in-Some
returns-in-Some c =
    let two : length c.args.words.now ≡ 2 = search rules in
    let named : string_bytes c.index-words-0.result ≡ codes "recode" = search rules in
    let number : IsNumber (string_bytes c.index-words-1.result) c.in-Some.count = search rules in (
      c.index-words-0.result,
      c.index-words-1.result,
      two_in_all c.args.words.now c.index-words-0.result c.index-words-1.result two c.index-words-0.is
          c.index-words-1.is,
      named,
      number,
    )
