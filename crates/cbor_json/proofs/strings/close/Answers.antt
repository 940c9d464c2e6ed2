use Rattle.std.proofs.Common.{[], ◌∷◌}
use Rattle.ciborium_ll.proofs.EncodingLaws.{WritesBytes-then}
use Rattle.cbor_json.proofs.strings.close.Goals as goal

pub returns : goal.returns
returns g c =
    WritesBytes-then g.W.Write _ _ _ c.put.result _ (34 ∷ []) c.in_ok-show_end.ensures c.put.ensures
