use Rattle.std.proofs.Common.{rules}
use Rattle.cbor_floats.proofs.FloatLaws.{bits_infinity, bits_nan}
use Rattle.cbor_floats.proofs.half_size.Goals as goal

pub returns-then-fraction-eq0 : goal.returns-then-fraction-eq0
returns-then-fraction-eq0 c = rw (c.if-exponent-eq31.true, c.if-fraction-eq0.true) bits_infinity

pub returns-else-fraction-eq0 : goal.returns-else-fraction-eq0
returns-else-fraction-eq0 c = search (rules, bits_nan)
