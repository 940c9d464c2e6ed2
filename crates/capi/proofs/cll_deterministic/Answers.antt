use Rattle.capi.proofs.DeterministicLaws.{refusal_code}
use Rattle.capi.proofs.cll_deterministic.Goals as goal

pub returns-clause-refused : goal.returns-clause-refused
returns-clause-refused c keys why offset shallow named =
    refusal_code keys c.order_of.result c.args.depth offset c.args.order c.code-2.result c.args.bytes.now why
    c.check_item.result named c.order_of.ensures c.code-2.ensures (c.check_item.ensures.refused why offset)
