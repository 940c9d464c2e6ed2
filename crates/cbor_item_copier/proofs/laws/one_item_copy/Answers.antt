use Rattle.cbor_item_copier.proofs.ReadLaws.{one_held, one_output}
use Rattle.cbor_item_copier.proofs.laws.one_item_copy.Goals as goal

pub returns : goal.returns
returns c = record { output = one_output; held = one_held }
