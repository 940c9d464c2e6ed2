use Rattle.cbor_item_copier.proofs.ReadLaws.{read_spelled}
use Rattle.cbor_item_copier.proofs.laws.item_spelled.Goals as goal

pub returns : goal.returns
returns c = read_spelled
