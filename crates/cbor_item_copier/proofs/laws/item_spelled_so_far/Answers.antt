use Rattle.cbor_item_copier.proofs.ReadLaws.{read_so_far}
use Rattle.cbor_item_copier.proofs.laws.item_spelled_so_far.Goals as goal

pub returns : goal.returns
returns c = read_so_far
