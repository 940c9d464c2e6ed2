use Rattle.std.proofs.Common.{refl, arith}
use Rattle.ciborium_ll_decoder.proofs.dec.Decoder.read.Goals as goal

pub returns-in_err-read_exact-clause-moves_on : goal.returns-in_err-read_exact-clause-moves_on
returns-in_err-read_exact-clause-moves_on g c = record {
  steady = c.read_exact.ensures.stays_steady;
  mode = refl;
  refusals = refl;
  rises = omega arith;
}
