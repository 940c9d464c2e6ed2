use Rattle.std.proofs.Common.{rules}
use Rattle.ciborium_ll_decoder.proofs.dec.Decoder.affix.Goals as goal

pub returns-clause-bytes : goal.returns-clause-bytes
returns-clause-bytes g c = c.in_ok-read.ensures.bytes

pub returns-in_err-read-clause-bytes : goal.returns-in_err-read-clause-bytes
returns-in_err-read-clause-bytes g c = search rules
