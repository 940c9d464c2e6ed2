use Rattle.std.proofs.Common.{[]}
use Rattle.ciborium_ll_grammar.specs.declared.spelling.Spelling.TheVariants.{Any}
use Rattle.capi.proofs.ItemDue.{ended_in_front}
use Rattle.capi.proofs.due.item_len.Goals as goal

pub returns-in-Ended : goal.returns-in-Ended
returns-in-Ended c =
    let tells = (c.feed.ensures.read Any c.args.depth [] c.new-checker.ensures).1.tells in
    ended_in_front Any c.args.depth c.args.bytes.now c.feed.result.taken c.in-Ended.len (rw c.in-Ended.is at tells)
