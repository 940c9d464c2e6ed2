use Rattle.cbor_canonical.proofs.NarrowRuns.{double_narrowest}
use Rattle.cbor_canonical.proofs.narrow.narrowest.Goals as goal

pub returns-in-Some-clause-narrow : goal.returns-in-Some-clause-narrow
returns-in-Some-clause-narrow c =
    rw c.in-Double.is (double_narrowest c.in-Double.bits c.in-Some.narrow c.narrow_single-in-Some.result
    c.in-Some.ensures c.narrow_single-in-Some.ensures.narrow)
