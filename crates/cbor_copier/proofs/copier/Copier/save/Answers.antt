use Rattle.std.proofs.Common.{rules}
use Rattle.cbor_copier.specs.Copying.{HasCopied, Keeps, Saves, spot_of}
use Rattle.cbor_copier.proofs.copier.Copier.save.Goals as goal

pub returns-clause-saves : goal.returns-clause-saves
unfolding Saves
returns-clause-saves c = search rules

pub returns-clause-keeps : goal.returns-clause-keeps
unfolding HasCopied Keeps Saves
returns-clause-keeps c = λ allowed count read written is. (spot_of c.args.self.now, is, returns-clause-saves c)
