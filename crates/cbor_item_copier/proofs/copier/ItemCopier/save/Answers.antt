use Rattle.cbor_item_copier.proofs.SavedLaws.{saves_keep}
use Rattle.cbor_item_copier.proofs.copier.ItemCopier.save.Goals as goal

pub returns-clause-keeps : goal.returns-clause-keeps
returns-clause-keeps c = λ allowed depth read written was.
    saves_keep allowed depth read written c.args.self.now _ (c.save.ensures.saves, c.save-snapshot.ensures.saves) was
