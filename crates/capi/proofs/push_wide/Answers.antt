use Rattle.capi.proofs.WideLaws.{puts_wide}
use Rattle.capi.proofs.push_wide.Goals as goal

pub returns-in-Some : goal.returns-in-Some
returns-in-Some c =
    puts_wide c.args.header.now c.args.width c.in-Some.title c.args.out.now c.put.new.out c.put.result c.put.new.report
    c.in-Some.ensures c.put.ensures
