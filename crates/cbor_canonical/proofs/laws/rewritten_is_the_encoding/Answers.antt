use Rattle.cbor_canonical.proofs.CanonicalLaws.{the_encoding}
use Rattle.cbor_canonical.proofs.laws.rewritten_is_the_encoding.Goals as goal

pub returns : goal.returns
returns c = the_encoding
