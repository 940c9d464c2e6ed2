use Rattle.std.proofs.Common.{◌≡◌, ◌∙◌, sym}
use Rattle.std.specs.Prelude.{string_bytes}
use Rattle.tool_files.specs.Arguments.{about, of, texts, word_name}
use Rattle.tool_files.proofs.ArgumentLaws.{asks_about, asks_of, map_err, map_ok}
use Rattle.tool_files.proofs.arguments.parse_request.Goals as goal

pub returns-in-Some-from_name-clause-ok : goal.returns-in-Some-from_name-clause-ok
returns-in-Some-from_name-clause-ok c =
    let named : string_bytes c.in-Some.first.now ≡ word_name c.in-Some-from_name.word =
    sym c.as_str.ensures.value ∙ c.in-Some-from_name.ensures.some in
    map_ok c.parse_look.result (λ request asks. of c.in-Some.first.now c.in-Some.behind.now c.in-Some-from_name.word
    c.in-Some.ensures.cases.0 named asks) c.parse_look.ensures.ok

pub returns-in-Some-from_name-clause-err : goal.returns-in-Some-from_name-clause-err
returns-in-Some-from_name-clause-err c =
    let named : string_bytes c.in-Some.first.now ≡ word_name c.in-Some-from_name.word =
    sym c.as_str.ensures.value ∙ c.in-Some-from_name.ensures.some in
    map_err c.parse_look.result (λ refusal none wanted asks. none wanted (asks_of c.in-Some.first.now c.args.words.now
    c.in-Some.behind.now c.in-Some.ensures.cases.0 c.in-Some-from_name.word wanted named asks)) c.parse_look.ensures.err

pub returns-in-None-clause-ok : goal.returns-in-None-clause-ok
returns-in-None-clause-ok c =
    map_ok c.parse_help.result (λ request asks. about c.in-Some.first.now c.in-Some.behind.now
    c.in-Some.ensures.cases.0 (rw c.as_str-in-None.ensures.value at (asks (texts c.args.files.now.items))))
    c.parse_help.ensures.ok

pub returns-in-None-clause-err : goal.returns-in-None-clause-err
returns-in-None-clause-err c =
    map_err c.parse_help.result (λ refusal none wanted asks. none wanted (rw c.as_str-in-None.ensures.value
    (asks_about c.in-Some.first.now c.args.words.now c.in-Some.behind.now c.in-Some.ensures.cases.0 wanted
    (λ word named. c.in-None.ensures.none word (c.as_str.ensures.value ∙ named)) asks))) c.parse_help.ensures.err
