use Rattle.std.proofs.Common.{ap, rules, Err}
use Rattle.capi.specs.Rewriting.{no_room}
use Rattle.capi.proofs.RewriteLaws.{written_told, rewrite_refused, rewrite_lacks}
use Rattle.capi.proofs.canonical.rewrite_item.Goals as goal

pub returns-in-Ok : goal.returns-in-Ok
returns-in-Ok c =
    written_told c.args.order c.args.depth c.in-Ok.len c.saturating_sub.result _ c.args.bytes.now c.in-Ok.rest.now
    c.canonical_into.new.out c.say.new.self c.in-Ok.ensures.written c.in-Ok.ensures.within c.saturating_sub.ensures
    c.say.ensures

pub returns-in-Err-Refused : goal.returns-in-Err-Refused
returns-in-Err-Refused c =
    let stop = c.stop_of_refusal-answer in
    let refusal = c.in-Err-Refused.refusal in
    rewrite_refused c.args.order c.args.depth refusal.place stop.result.1 _ c.args.bytes.now c.canonical_into.new.out
    refusal.why stop.result.0 c.say-in-Err-Refused.new.self
    (rw c.in-Err-Refused.field-0-is at c.in-Err-Refused.ensures.written) stop.ensures.answer stop.ensures.place
    c.say-in-Err-Refused.ensures

pub returns-in-Err-Memory : goal.returns-in-Err-Memory
returns-in-Err-Memory c =
    no_room (rewrite_lacks c.args.order c.args.depth _ c.args.bytes.now c.args.out.now c.canonical_into.new.out
    (search rules) (c.in-Err-Memory.ensures.room (ap Err c.in-Err-Memory.field-0-is))) c.say-in-Err-Memory.ensures
