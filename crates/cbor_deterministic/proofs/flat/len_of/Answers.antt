use Rattle.std.proofs.Common.{arith}
use Rattle.cbor_deterministic.proofs.FlatLaws.{len_says}
use Rattle.cbor_deterministic.proofs.flat.len_of.Goals as goal

pub returns : goal.returns
returns c = len_says c.args.first c.from.result (omega (arith, c.ranges.first)) c.from.ensures
