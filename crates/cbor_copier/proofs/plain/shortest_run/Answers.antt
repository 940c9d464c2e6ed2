use Rattle.std.proofs.Common.{[], refl}
use Rattle.cbor_copier.proofs.ShortestLaws.{none_strict}
use Rattle.cbor_copier.proofs.plain.shortest_run.Goals as goal

pub returns-then-not-may_begin-clause-run : goal.returns-then-not-may_begin-clause-run
returns-then-not-may_begin-clause-run c = ([], none_strict 0 refl)
