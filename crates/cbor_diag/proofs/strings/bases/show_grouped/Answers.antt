use Rattle.ciborium_ll.proofs.PiecesWritten.{writes_nothing}
use Rattle.cbor_diag.proofs.BaseLaws.{no_group}
use Rattle.cbor_diag.proofs.strings.bases.show_grouped.Goals as goal

pub returns-in-Nothing : goal.returns-in-Nothing
returns-in-Nothing g c =
    rw (no_group c.args.engine.now c.args.held c.args.byte c.in-Nothing.is) (writes_nothing g.W.Write c.args.writer.now)
