use Rattle.ciborium_ll.proofs.EncodingLaws.{WritesBytes-stopped, WritesBytes-then, text_bytes}
use Rattle.uses.proofs.claims.write_name.Goals as goal

pub returns-in_err-push-clause-bytes : goal.returns-in_err-push-clause-bytes
returns-in_err-push-clause-bytes g c =
    rw c.in-Some.is (WritesBytes-stopped g.W.Write _ _ _ _ _ c.from_residual.ensures.0 c.in_err-push.ensures.title)

pub returns-clause-bytes : goal.returns-clause-bytes
returns-clause-bytes g c =
    rw c.in-Some.is (WritesBytes-then g.W.Write _ _ _ _ _ _ c.in_ok-push.ensures.title
    (text_bytes g.W.Write _ _ _ _ c.text.ensures.written.value))
