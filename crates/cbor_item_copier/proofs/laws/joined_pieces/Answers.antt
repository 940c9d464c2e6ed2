use Rattle.cbor_item_copier.proofs.JoinLaws.{joined, kept_in}
use Rattle.cbor_item_copier.proofs.laws.joined_pieces.Goals as goal

pub returns : goal.returns
returns c = record { both = joined; first = kept_in }
