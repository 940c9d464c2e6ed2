use Rattle.std.proofs.Common.{rules, ◌≡◌, ◌++◌, List, ℕ, codes, decimal, true, subst}
use Rattle.ciborium_ll.specs.Encoding.{WritesBytes}
use Rattle.ciborium_ll.proofs.EncodingLaws.{WritesBytes-stopped, WritesBytes-then}
use Rattle.cbor_diag.specs.Marks.{is_marked}
use Rattle.cbor_diag.proofs.MarkLaws.{simple_marked}
use Rattle.cbor_diag.proofs.scalars.show_simple.Goals as goal

pub returns-in_err-put_three : goal.returns-in_err-put_three
returns-in_err-put_three g c =
    let digits = c.as_bytes.result.now in
    let text : digits ≡ decimal c.args.number = search rules in
    let marked : is_marked c.args.mark ≡ true = search rules in
    subst (λ (z : List ℕ). WritesBytes g.W.Write c.args.writer.now c.from_residual.result z c.put_three.new.writer)
    (simple_marked c.args.number c.args.mark digits c.text.result.now marked text c.text.ensures)
    (WritesBytes-stopped g.W.Write _ _ c.from_residual.result ((codes "simple(" ++ digits) ++ c.text.result.now)
    (codes ")") c.from_residual.ensures.0 c.in_err-put_three.ensures)

pub returns : goal.returns
returns g c =
    let digits = c.as_bytes.result.now in
    let text : digits ≡ decimal c.args.number = search rules in
    let marked : is_marked c.args.mark ≡ true = search rules in
    subst (λ (z : List ℕ). WritesBytes g.W.Write c.args.writer.now c.put.result z c.put.new.writer)
    (simple_marked c.args.number c.args.mark digits c.text.result.now marked text c.text.ensures)
    (WritesBytes-then g.W.Write _ _ _ c.put.result ((codes "simple(" ++ digits) ++ c.text.result.now) (codes ")")
    c.in_ok-put_three.ensures c.put.ensures)
