use Rattle.cbor_dump.proofs.RefusedLaws.{mapped_refused}
use Rattle.cbor_dump.proofs.dump.shown.Goals as goal

pub returns-clause-refused : goal.returns-clause-refused
returns-clause-refused g c =
    mapped_refused c.row.result c.map_err.result _ _ _ _ c.map_err.ensures.cases c.row.ensures.refused
