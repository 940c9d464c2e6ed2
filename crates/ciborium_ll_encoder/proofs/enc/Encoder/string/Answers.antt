use Rattle.ciborium_ll_encoder.proofs.EncodingLaws.{WritesBytes-of, WritesBytes-stopped, WritesBytes-then}
use Rattle.ciborium_ll_encoder.proofs.enc.Encoder.string.Goals as goal

pub returns-in_err-push-clause-bytes : goal.returns-in_err-push-clause-bytes
returns-in_err-push-clause-bytes g c =
    WritesBytes-stopped g.W.Write _ _ c.from_residual.result _ c.args.body.now c.from_residual.ensures.0
    c.in_err-push.ensures.title

pub returns-clause-bytes : goal.returns-clause-bytes
returns-clause-bytes g c =
    let wrote = c.write_all.ensures in
    WritesBytes-then g.W.Write _ _ _ c.write_all.result _ c.args.body.now c.in_ok-push.ensures.title
    (WritesBytes-of g.W.Write _ _ c.write_all.result c.args.body.now wrote.bytes wrote.fills wrote.ok wrote.front
    wrote.full wrote.err)
