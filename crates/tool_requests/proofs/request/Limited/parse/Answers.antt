use Rattle.std.proofs.Common.{None, Some, ◌∙◌, arith, sym}
use Rattle.std.proofs.lemmas.Str.Pattern.{split_parts}
use Rattle.tool_requests.specs.Request.{space}
use Rattle.tool_requests.proofs.RequestLaws.{cut_behind_limit}
use Rattle.tool_requests.proofs.request.Limited.parse.Goals as goal

pub returns-in_default-clause-none : goal.returns-in_default-clause-none
returns-in_default-clause-none c asked spelled = cut_behind_limit c.args.words.now None c.in_default.ensures.cases
    asked spelled

pub returns-in_default-limit_of-clause-none : goal.returns-in_default-limit_of-clause-none
returns-in_default-limit_of-clause-none c asked spelled =
    let parts = cut_behind_limit c.args.words.now (Some (c.in-Some.first, c.in-Some.word)) c.in-Some.ensures.cases
    asked spelled in
    c.in_default-limit_of.ensures.none asked.limit parts.0

pub returns-in-None-clause-none : goal.returns-in-None-clause-none
returns-in-None-clause-none c asked spelled =
    let parts = cut_behind_limit c.args.words.now (Some (c.in-Some.first, c.in-Some.word)) c.in-Some.ensures.cases
    asked spelled in
    let none = rw c.in-None.is at c.in_ok-bytes.ensures.none in
    let same = sym none ∙ parts.1 in
    cc same

pub returns-in-Some-2-clause-some : goal.returns-in-Some-2-clause-some
returns-in-Some-2-clause-some c =
    let parts = split_parts space c.args.words.now (Some (c.in-Some.first, c.in-Some.word)) c.in-Some.ensures.cases
    (omega arith) in (
      c.in-Some.first.now,
      c.in-Some.word.now,
      parts.0,
      c.in-Some-limit_of.ensures.some,
      rw c.in-Some-2.is at c.in_ok-bytes.ensures.some,
    )
