use Rattle.ciborium_ll.proofs.PiecesWritten.{writes_nothing}
use Rattle.cbor_diag.proofs.strings.bases.show_held.Goals as goal

pub returns-in-Nothing : goal.returns-in-Nothing
returns-in-Nothing g c = rw c.in-Nothing.is (writes_nothing g.W.Write c.args.writer.now)
