use Rattle.std.proofs.Common.{rules, Ok, Err, Some}
use Rattle.ciborium_ll_decoder.proofs.DecodingLaws.{exit_is}
use Rattle.tool_lines.proofs.PromptLaws.{all_written, appended_known, some_written}
use Rattle.tool_lines.proofs.prompt.send.Goals as goal

pub returns-in_err-write_all-clause-some : goal.returns-in_err-write_all-clause-some
returns-in_err-write_all-clause-some g c = λ written known.
    rw (exit_is _ _ c.from_residual.ensures.1) (some_written g.W.Write.contents written c.args.bytes.now
    c.args.writer.now.sink c.write_all.new.self.sink known (rw (c.in_err-write_all.was) at c.write_all.ensures.part))
