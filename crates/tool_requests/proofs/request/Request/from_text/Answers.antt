use Rattle.std.proofs.Common.{None, Some, arith}
use Rattle.std.proofs.lemmas.Str.Pattern.{split_parts}
use Rattle.tool_requests.specs.Request.{command_of, space}
use Rattle.tool_requests.proofs.RequestLaws.{cut_behind_first, none_of_line, some_of_line}
use Rattle.tool_requests.proofs.request.Request.from_text.Goals as goal

pub returns-in_default-clause-none : goal.returns-in_default-clause-none
returns-in_default-clause-none c request asks = cut_behind_first c.args.text.now None c.in_default.ensures.cases
    request asks

pub returns-in-None-clause-none : goal.returns-in-None-clause-none
returns-in-None-clause-none c request asks =
    let parts = cut_behind_first c.args.text.now (Some (c.in-Some.name, c.in-Some.words)) c.in-Some.ensures.cases
    request asks in
    c.in-None.ensures.none (command_of request) parts.0

pub returns-in-Some-named-clause-none : goal.returns-in-Some-named-clause-none
returns-in-Some-named-clause-none c =
    none_of_line c.args.text.now c.in-Some.name.now c.in-Some.words.now c.in-Some-named.command c.of_words.result
    c.in-Some-named.ensures.some (cut_behind_first c.args.text.now (Some (c.in-Some.name, c.in-Some.words))
    c.in-Some.ensures.cases) c.of_words.ensures.none

pub returns-in-Some-named-clause-some : goal.returns-in-Some-named-clause-some
returns-in-Some-named-clause-some c =
    some_of_line c.args.text.now c.in-Some.name.now c.in-Some.words.now c.in-Some-named.command c.of_words.result
    c.in-Some-named.ensures.some (split_parts space c.args.text.now (Some (c.in-Some.name, c.in-Some.words))
    c.in-Some.ensures.cases (omega arith)).0 c.of_words.ensures.some
