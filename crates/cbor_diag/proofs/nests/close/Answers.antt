use Rattle.ciborium_ll.proofs.EncodingLaws.{WritesBytes-stopped, WritesBytes-then}
use Rattle.cbor_diag.specs.ItemTexts.{nest_closing}
use Rattle.cbor_diag.proofs.nests.close.Goals as goal

pub returns-in-Array : goal.returns-in-Array
returns-in-Array g c =
    WritesBytes-then g.W.Write _ _ _ _ _ _ c.in_ok-behind.ensures (rw c.in-Array.is c.put-in-Array.ensures)

pub returns-in-Map : goal.returns-in-Map
returns-in-Map g c =
    WritesBytes-then g.W.Write _ _ _ _ _ _ c.in_ok-behind.ensures (rw c.in-Map.is c.put-in-Map.ensures)

pub returns-in_err-behind : goal.returns-in_err-behind
returns-in_err-behind g c =
    WritesBytes-stopped g.W.Write _ _ c.from_residual.result _ (nest_closing c.args.nest.now.header) c.from_residual.ensures.0
    c.in_err-behind.ensures

pub returns-in-Tag : goal.returns-in-Tag
returns-in-Tag g c =
    WritesBytes-then g.W.Write _ _ _ _ _ _ c.in_ok-behind.ensures (rw c.in-Tag.is c.put.ensures)
