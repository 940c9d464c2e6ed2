use Rattle.ciborium_ll.proofs.PiecesWritten.{copied_same}
use Rattle.ciborium_ll.proofs.laws.pieces.copy_spelled.Goals as goal

pub returns-clause-same : goal.returns-clause-same
returns-clause-same g c = λ marks rest written run ready.
    copied_same g.R.Read g.W.Write c.args.count marks rest written _ _ _ c.recode.result run
    (c.recode.ensures.front _ _ written ready) (c.recode.ensures.told _ _ written ready)
