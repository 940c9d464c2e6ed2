use Rattle.tool_verdicts.proofs.LineLaws.{only_written}
use Rattle.tool_verdicts.proofs.items.write_only_item.Goals as goal

pub returns : goal.returns
returns g c =
    let between = c.write_line.new.decoder in
    let new = c.offset.new.self in
    let pulls = rw (← c.offset.ensures.same, c.offset-place.ensures.same) at c.pull-pulled.ensures.header in
    only_written _ g.R.Read g.W.Write c.args.form c.args.depth c.offset-place.result c.offset.result _ between new _
    c.pull-pulled.result c.ending_of.result c.in_default.ensures.writes c.in_default.ensures.reads.reads pulls
    c.ending_of.ensures c.offset-place.ensures.value (rw c.offset.ensures.same c.offset.ensures.value)
