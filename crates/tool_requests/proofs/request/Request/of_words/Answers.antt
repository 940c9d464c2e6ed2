use Rattle.tool_requests.proofs.RequestLaws.{none_of_bytes, none_of_chunks, none_of_recode, none_of_skip}
use Rattle.tool_requests.proofs.RequestLaws.{none_of_strict, none_of_text}
use Rattle.tool_requests.proofs.request.Request.of_words.Goals as goal

pub returns-in-None-2-clause-none : goal.returns-in-None-2-clause-none
returns-in-None-2-clause-none c =
    none_of_chunks c.args.command c.in-Chunks.is c.args.words.now
    (rw c.in-None-2.is at c.in_ok-asked-in-Chunks.ensures.none)

pub returns-in-None-3-clause-none : goal.returns-in-None-3-clause-none
returns-in-None-3-clause-none c =
    none_of_bytes c.args.command c.in-Bytes.is c.args.words.now
    (rw c.in-None-3.is at c.in_ok-asked-in-Bytes.ensures.none)

pub returns-in-None-4-clause-none : goal.returns-in-None-4-clause-none
returns-in-None-4-clause-none c =
    none_of_text c.args.command c.in-Text.is c.args.words.now
    (rw c.in-None-4.is at c.in_ok-asked-in-Text.ensures.none)

pub returns-in-None-5-clause-none : goal.returns-in-None-5-clause-none
returns-in-None-5-clause-none c =
    none_of_recode c.args.command c.in-Recode.is c.args.words.now
    (rw c.in-None-5.is at c.in_ok-asked-in-Recode.ensures.none)

pub returns-in-None-6-clause-none : goal.returns-in-None-6-clause-none
returns-in-None-6-clause-none c =
    none_of_strict c.args.command c.in-Strict.is c.args.words.now
    (rw c.in-None-6.is at c.in_ok-asked-in-Strict.ensures.none)

pub returns-in-None-7-clause-none : goal.returns-in-None-7-clause-none
returns-in-None-7-clause-none c =
    none_of_skip c.args.command c.in-Skip.is c.args.words.now
    (rw c.in-None-7.is at c.in_ok-asked-in-Skip.ensures.none)
