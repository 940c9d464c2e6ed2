use Rattle.std.proofs.Common.{arith}
use Rattle.cbor_canonical.proofs.NarrowRuns.{half_narrowest, single_narrowest}
use Rattle.cbor_canonical.proofs.narrow.narrow_single.Goals as goal

pub returns-in-Some-clause-narrow : goal.returns-in-Some-clause-narrow
returns-in-Some-clause-narrow c = half_narrowest c.args.bits c.in-Some.narrow (omega arith) c.in-Some.ensures

pub returns-in-None-clause-narrow : goal.returns-in-None-clause-narrow
returns-in-None-clause-narrow c = single_narrowest c.args.bits c.in-None.ensures
