use Rattle.std.proofs.Common.{codes, ◌++◌}
use Rattle.ciborium_ll.proofs.EncodingLaws.{WritesBytes-stopped, WritesBytes-then}
use Rattle.cbor_diag.specs.Notation.{bytes_notation}
use Rattle.cbor_diag.proofs.scalars.put_bits.Goals as goal

pub returns-in_err-put : goal.returns-in_err-put
returns-in_err-put g c =
    WritesBytes-stopped g.W.Write _ _ c.from_residual.result (codes "float'")
    (bytes_notation c.args.bytes.now ++ codes "'") c.from_residual.ensures.0 c.in_err-put.ensures

pub returns-in_err-put_hex : goal.returns-in_err-put_hex
returns-in_err-put_hex g c =
    WritesBytes-then g.W.Write _ _ _ c.from_residual-in_err-put_hex.result (codes "float'") _ c.in_ok-put.ensures
    (WritesBytes-stopped g.W.Write _ _ c.from_residual-in_err-put_hex.result (bytes_notation c.args.bytes.now)
    (codes "'") c.from_residual-in_err-put_hex.ensures.0 c.in_err-put_hex.ensures)

pub returns : goal.returns
returns g c =
    WritesBytes-then g.W.Write _ _ _ c.put-2.result (codes "float'") _ c.in_ok-put.ensures
    (WritesBytes-then g.W.Write _ _ _ c.put-2.result (bytes_notation c.args.bytes.now) (codes "'")
    c.in_ok-put_hex.ensures c.put-2.ensures)
