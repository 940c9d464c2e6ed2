use Rattle.cbor_checker.specs.Checking.{HoldsSome}
use Rattle.cbor_checker.proofs.snapshot.Snapshot.new.Goals as goal

pub returns : goal.returns
unfolding HoldsSome
returns c = λ holds. let phase = holds.1.phase in absurd cc
