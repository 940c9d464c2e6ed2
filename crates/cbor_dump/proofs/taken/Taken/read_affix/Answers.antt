use Rattle.std.proofs.Common.{refl}
use Rattle.cbor_dump.proofs.TakingLaws.{keeps_none}
use Rattle.cbor_dump.proofs.PullLaws.{reads_none}
use Rattle.cbor_dump.proofs.taken.Taken.read_affix.Goals as goal

pub returns-then-count-eq0-clause-keeps : goal.returns-then-count-eq0-clause-keeps
returns-then-count-eq0-clause-keeps g c = keeps_none g.R.Read _ _ _ _ refl refl

pub returns-then-count-eq0-clause-reads : goal.returns-then-count-eq0-clause-reads
returns-then-count-eq0-clause-reads g c =
    rw c.if-count-eq0.true (reads_none g.R.Read _ _ c.requires.none_waits)
