use Rattle.std.proofs.Common.{◌++◌}
use Rattle.ciborium_ll.proofs.EncodingLaws.{WritesBytes-stopped, WritesBytes-then}
use Rattle.cbor_diag.proofs.put.put_three.Goals as goal

pub returns-in_err-put_two : goal.returns-in_err-put_two
returns-in_err-put_two g c =
    WritesBytes-stopped g.W.Write _ _ c.from_residual.result (c.args.first.now ++ c.args.second.now) c.args.third.now
    c.from_residual.ensures.0 c.in_err-put_two.ensures

pub returns : goal.returns
returns g c =
    WritesBytes-then g.W.Write _ _ _ _ (c.args.first.now ++ c.args.second.now) c.args.third.now
    c.in_ok-put_two.ensures c.put.ensures
