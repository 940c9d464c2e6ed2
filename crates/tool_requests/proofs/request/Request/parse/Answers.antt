use Rattle.tool_requests.proofs.RequestLaws.{IsUtf8-request}
use Rattle.tool_requests.proofs.request.Request.parse.Goals as goal

pub returns-in-Err-clause-none : goal.returns-in-Err-clause-none
returns-in-Err-clause-none c request asks = c.in-Err.ensures.cases.0 (IsUtf8-request c.args.line.now request asks)

pub returns-in-Ok-clause-none : goal.returns-in-Ok-clause-none
returns-in-Ok-clause-none c = rw c.in-Ok.ensures.cases.0 at c.from_text.ensures.none
