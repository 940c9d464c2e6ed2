use Rattle.cbor_copier.proofs.ExactLaws.{strict_copy}
use Rattle.cbor_copier.proofs.laws.strict_copy.Goals as goal

pub returns : goal.returns
returns c = strict_copy
