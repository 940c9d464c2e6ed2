use Rattle.ciborium_ll.proofs.EncodingLaws.{WritesBytes-stopped, WritesBytes-then}
use Rattle.cbor_diag.proofs.put.put_two.Goals as goal

pub returns-in_err-put : goal.returns-in_err-put
returns-in_err-put g c =
    WritesBytes-stopped g.W.Write _ _ c.from_residual.result c.args.first.now c.args.second.now
    c.from_residual.ensures.0 c.in_err-put.ensures

pub returns : goal.returns
returns g c =
    WritesBytes-then g.W.Write _ _ _ _ c.args.first.now c.args.second.now c.in_ok-put.ensures c.put-2.ensures
