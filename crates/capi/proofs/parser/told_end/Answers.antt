use Rattle.capi.proofs.ParserLaws.{end_fault}
use Rattle.capi.proofs.parser.told_end.Goals as goal

pub returns-in-Fault : goal.returns-in-Fault
returns-in-Fault c = λ allowed bytes tokens was.
    end_fault allowed bytes tokens c.args.parser.now c.push.new.self c.push.result.taken c.in-Fault.place
    c.push.result.event c.push.ensures.taken c.in-Fault.is was (c.push.ensures.pushed allowed bytes tokens was)
