use Rattle.std.proofs.Common.{refl}
use Rattle.capi.specs.Determining.{has_item}
use Rattle.capi.proofs.DeterministicLaws.{item_exactly, refusal_exactly, refusal_told}
use Rattle.capi.proofs.deterministic.check_item.Goals as goal

pub returns-in-Ok-clause-exactly : goal.returns-in-Ok-clause-exactly
returns-in-Ok-clause-exactly c len =
    item_exactly c.args.order c.args.depth c.in-Ok.len len c.args.bytes.now c.say.new.self (c.in-Ok.ensures.exactly len)
    c.say.ensures

pub returns-in-Ok-clause-refused : goal.returns-in-Ok-clause-refused
returns-in-Ok-clause-refused c why offset = λ has. let same = (c.in-Ok.ensures.refused why offset).1 has in absurd cc

pub returns-in-Ok-clause-determined : goal.returns-in-Ok-clause-determined
returns-in-Ok-clause-determined c = has_item ((c.in-Ok.ensures.exactly c.in-Ok.len).0 refl) c.say.ensures

pub returns-in-Err-clause-refused : goal.returns-in-Err-clause-refused
returns-in-Err-clause-refused c why offset = λ has.
    let stop = c.stop_of_refusal-answer in
    refusal_exactly c.args.order c.args.depth offset stop.result.1 c.args.bytes.now why c.in-Err.refusal stop.result.0
    c.say-in-Err.new.self (c.in-Err.ensures.refused why offset) stop.ensures.answer stop.ensures.place c.say-in-Err.ensures has

pub returns-in-Err-clause-determined : goal.returns-in-Err-clause-determined
returns-in-Err-clause-determined c =
    let stop = c.stop_of_refusal-answer in
    let refusal = c.in-Err.refusal in
    refusal_told c.args.order c.args.depth refusal.place stop.result.1 c.args.bytes.now refusal.why stop.result.0
    c.say-in-Err.new.self ((c.in-Err.ensures.refused refusal.why refusal.place).0 refl) stop.ensures.answer
    stop.ensures.place c.say-in-Err.ensures
