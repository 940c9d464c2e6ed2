use Rattle.std.proofs.Common.{rules, tests, arith, ◌≡◌, ◌≢◌, length}
use Rattle.std.proofs.lemmas.Iterator.{IsFirst-from_position, YieldsList-from_slice}
use Rattle.tool_requests.specs.Line.{line_feed}
use Rattle.tool_requests.proofs.LineLaws.{one_line}
use Rattle.tool_requests.proofs.input.line_length.Goals as goal

pub returns-in-Some-clause-line : goal.returns-in-Some-clause-line
returns-in-Some-clause-line c =
    let part = c.args.part.now in
    let first = IsFirst-from_position _ _ _ (λ byte. byte ≡ line_feed) (λ byte. byte ≢ line_feed) c.position.ensures.ran
    (YieldsList-from_slice part cc) (λ x q k. search (rules, tests)) (λ x q k. search (rules, tests)) in
    let found = rw c.in-Some.is at first in
    one_line part c.in-Some.length (omega (arith, found.0)) found.2

pub returns-in-None-clause-line : goal.returns-in-None-clause-line
returns-in-None-clause-line c =
    let part = c.args.part.now in
    let first = IsFirst-from_position _ _ _ (λ byte. byte ≡ line_feed) (λ byte. byte ≢ line_feed) c.position.ensures.ran
    (YieldsList-from_slice part cc) (λ x q k. search (rules, tests)) (λ x q k. search (rules, tests)) in
    one_line part (length part) (omega arith) (rw c.in-None.is at first)
