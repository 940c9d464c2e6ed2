use Rattle.std.proofs.Common.{refl}
use Rattle.cbor_dump.proofs.WalkLaws.{due_first}
use Rattle.cbor_dump.proofs.walk.Walk.new.Goals as goal

pub returns : goal.returns
returns c = λ allowed. due_first allowed c.args.depth _ refl refl refl refl
