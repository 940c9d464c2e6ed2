use Rattle.std.proofs.Common.{rules}
use Rattle.cbor_deterministic.proofs.FlatLaws.{long_half, long_single, long_double}
use Rattle.cbor_deterministic.proofs.TitleRuns.{untold}
use Rattle.cbor_deterministic.proofs.flat.float_len.Goals as goal

pub returns-in-249-clause-flat : goal.returns-in-249-clause-flat
returns-in-249-clause-flat c = λ more.
    long_half c.args.bytes.now c.requires.some c.two_bytes.result c.in-249.is (search rules) c.two_bytes.ensures

pub returns-in-250-clause-flat : goal.returns-in-250-clause-flat
returns-in-250-clause-flat c = λ more.
    long_single c.args.bytes.now c.requires.some c.four_bytes.result c.in-250.is (search rules)
    (untold _ c.if-not-is_wide_float-2.true c.is_wide_float-then-bytes-ge5.ensures) c.four_bytes.ensures

pub returns-in-251-clause-flat : goal.returns-in-251-clause-flat
returns-in-251-clause-flat c = λ more.
    long_double c.args.bytes.now c.requires.some c.eight_bytes.result c.in-251.is (search rules)
    (untold _ c.if-not-is_wide_float-3.true c.is_wide_float-then-bytes-ge9.ensures) c.eight_bytes.ensures
