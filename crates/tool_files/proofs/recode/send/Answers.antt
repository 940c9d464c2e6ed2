use Rattle.std.proofs.Common.{rules}
use Rattle.tool_files.proofs.RecodeLaws.{some_written}
use Rattle.tool_files.proofs.recode.send.Goals as goal

pub returns-in_err-map_err-clause-some : goal.returns-in_err-map_err-clause-some
returns-in_err-map_err-clause-some g c = λ written known.
    let some = some_written g.W.Write.contents written c.args.bytes.now c.args.writer.now.sink
    c.write_all.new.self.sink in
    search (some, known, rules)
