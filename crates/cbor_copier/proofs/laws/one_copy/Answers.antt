use Rattle.cbor_copier.proofs.ReadLaws.{one_held, one_output}
use Rattle.cbor_copier.proofs.laws.one_copy.Goals as goal

pub returns : goal.returns
returns c = record { output = one_output; held = one_held }
