use Rattle.cbor_dump.proofs.LeftLaws.{one_came}
use Rattle.cbor_dump.proofs.taken.Taken.read_one.Goals as goal

pub returns-clause-came : goal.returns-clause-came
returns-clause-came g c = one_came g.R.Read _ _ _ _ _ _ c.is_ok.ensures.value c.read.ensures.reads
