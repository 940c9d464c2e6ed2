use Rattle.std.proofs.Common.{◌≡◌, [], ap, arith, take}
use Rattle.tool_files.proofs.LineLaws.{part_written}
use Rattle.tool_files.proofs.lines.Lines.write_on.Goals as goal

pub returns-clause-text : goal.returns-clause-text
returns-clause-text g c =
    let lines = c.send.new.self in
    let none : take lines.len lines.bytes ≡ [] = ap (λ n. take n lines.bytes) (c.in_ok-send.ensures.all (omega arith)) in
    part_written c.noted.result c.write_all-written.result (g.W.Write.contents lines.writer)
    (g.W.Write.contents c.write_all-written.new.self) _ _ (take lines.len lines.bytes) c.args.part.now none
    c.noted.ensures.ok c.write_all-written.ensures.bytes c.in_ok-send.ensures.keeps c.noted.ensures.text
