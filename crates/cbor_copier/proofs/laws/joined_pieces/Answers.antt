use Rattle.cbor_copier.proofs.ReadLaws.{joined, kept_in}
use Rattle.cbor_copier.proofs.laws.joined_pieces.Goals as goal

pub returns : goal.returns
returns c = record { both = joined; first = kept_in }
