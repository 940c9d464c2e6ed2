use Rattle.std.proofs.Common.{arith}
use Rattle.cbor_escapes.proofs.UnescapedLaws.{unescaped_told}
use Rattle.cbor_escapes.proofs.is_unescaped.Goals as goal

pub returns : goal.returns
returns c = unescaped_told c.args.byte c.from.result (omega (arith, c.ranges.byte.fits)) c.from.ensures
