use Rattle.std.proofs.Common.{rules, ◌≡◌, ◌++◌, List, ℕ, codes, decimal, subst}
use Rattle.ciborium_ll.specs.Encoding.{WritesAll}
use Rattle.ciborium_ll.proofs.EncodingLaws.{WritesBytes-then}
use Rattle.cbor_diag.specs.Marks.{mark_text}
use Rattle.cbor_diag.proofs.nests.open.Goals as goal

pub returns-in_ok-put_marked-in-Tag : goal.returns-in_ok-put_marked-in-Tag
returns-in_ok-put_marked-in-Tag g c =
    let text : c.as_bytes.result.now ≡ decimal c.in-Tag.number = search rules in
    let mark = mark_text c.args.nest.now.mark in
    rw c.in-Tag.is (WritesBytes-then g.W.Write _ _ _ c.put.result (decimal c.in-Tag.number ++ mark) (codes "(")
    (subst (λ (z : List ℕ). WritesAll g.W.Write c.args.writer.now (z ++ mark) c.put_marked.new.writer) text
    c.in_ok-put_marked-in-Tag.ensures) c.put.ensures)
