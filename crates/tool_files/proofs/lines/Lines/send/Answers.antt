use Rattle.std.proofs.Common.{◌≡◌, ◌∙◌, ◌-◌, ◌≤◌, ap, arith, drop, rules, take}
use Rattle.std.specs.Io.KnownBytes.{append_known}
use Rattle.tool_files.proofs.LineLaws.{rest_moved, sent}
use Rattle.tool_files.proofs.lines.Lines.send.Goals as goal

pub returns-clause-keeps : goal.returns-clause-keeps
returns-clause-keeps g c =
    let bytes = c.args.self.now.bytes in
    let len = c.args.self.now.len in
    let count = c.min-count.result in
    let b = g.W.Write.contents c.write_all-written.new.self in
    let less : count ≤ len = omega (arith, c.min-count.ensures) in
    let moved : take (len - count) c.copy_within.new.self ≡ drop count (take len bytes) =
    ap (take (len - count)) c.copy_within.ensures.after ∙ rest_moved bytes count len less (omega arith) in
    sent c.noted.result c.write_all-written.result (g.W.Write.contents c.args.self.now.writer) b _ bytes count len
    less c.noted.ensures.ok c.write_all-written.ensures.bytes
    (c.noted.ensures.text ∙ ap (append_known b) moved)
