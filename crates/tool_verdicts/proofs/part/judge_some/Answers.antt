use Rattle.tool_verdicts.proofs.PartLaws.{index_said, some_found}
use Rattle.tool_verdicts.proofs.part.judge_some.Goals as goal

pub returns-clause-told : goal.returns-clause-told
returns-clause-told g c = λ due ready.
    some_found g.R.Read c.args.depth 512 c.args.decoder.now due ready c.args.most c.in-Ok.verdict c.index.new.decoder
    (index_said g.R.Read c.args.depth 512 c.args.most _ _ c.args.decoder.now c.index.new.decoder c.index.result
    c.in-Ok.verdict c.in-Ok.is c.index.ensures)

pub returns-clause-says : goal.returns-clause-says
returns-clause-says g c =
    index_said g.R.Read c.args.depth 512 c.args.most _ _ c.args.decoder.now c.index.new.decoder c.index.result
    c.in-Ok.verdict c.in-Ok.is c.index.ensures
