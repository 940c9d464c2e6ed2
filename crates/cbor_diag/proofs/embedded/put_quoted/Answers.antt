use Rattle.std.proofs.Common.{codes, ◌++◌}
use Rattle.ciborium_ll.proofs.EncodingLaws.{WritesBytes-stopped, WritesBytes-then}
use Rattle.cbor_diag.specs.Marks.{mark_text}
use Rattle.cbor_diag.specs.Notation.{bytes_notation}
use Rattle.cbor_diag.proofs.MemoryLaws.{quoted_parts}
use Rattle.cbor_diag.proofs.embedded.put_quoted.Goals as goal

pub returns-in_err-put : goal.returns-in_err-put
returns-in_err-put g c =
    rw (quoted_parts c.args.body.now c.args.mark) (WritesBytes-stopped g.W.Write _ _ c.from_residual.result (codes "h'")
    (bytes_notation c.args.body.now ++ (codes "'" ++ mark_text c.args.mark)) c.from_residual.ensures.0 c.in_err-put.ensures)

pub returns-in_err-put_hex : goal.returns-in_err-put_hex
returns-in_err-put_hex g c =
    rw (quoted_parts c.args.body.now c.args.mark) (WritesBytes-then g.W.Write _ _ _ c.from_residual-in_err-put_hex.result
    (codes "h'") _ c.in_ok-put.ensures (WritesBytes-stopped g.W.Write _ _ c.from_residual-in_err-put_hex.result
    (bytes_notation c.args.body.now) (codes "'" ++ mark_text c.args.mark) c.from_residual-in_err-put_hex.ensures.0
    c.in_err-put_hex.ensures))

pub returns : goal.returns
returns g c =
    rw (quoted_parts c.args.body.now c.args.mark) (WritesBytes-then g.W.Write _ _ _ c.put_marked.result (codes "h'") _
    c.in_ok-put.ensures (WritesBytes-then g.W.Write _ _ _ c.put_marked.result (bytes_notation c.args.body.now)
    (codes "'" ++ mark_text c.args.mark) c.in_ok-put_hex.ensures c.put_marked.ensures))
