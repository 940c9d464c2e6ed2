use Rattle.cbor_canonical.proofs.CanonicalLaws.{again}
use Rattle.cbor_canonical.proofs.laws.written_again.Goals as goal

pub returns : goal.returns
returns c = again
