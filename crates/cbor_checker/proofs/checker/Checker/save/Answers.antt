use Rattle.std.proofs.Common.{rules}
use Rattle.cbor_checker.specs.Checking.{HasRead, Keeps, Saves, spot_of}
use Rattle.cbor_checker.specs.Snapshots.{Holds}
use Rattle.cbor_checker.proofs.checker.Checker.save.Goals as goal

pub returns-clause-saves : goal.returns-clause-saves
unfolding Saves
returns-clause-saves c = let holds : Holds c.save.new.snapshot (spot_of c.args.self.now) = search rules in holds

pub returns-clause-keeps : goal.returns-clause-keeps
unfolding HasRead Keeps Saves
returns-clause-keeps c = λ allowed depth read is. (spot_of c.args.self.now, is, returns-clause-saves c)
