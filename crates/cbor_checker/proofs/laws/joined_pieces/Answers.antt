use Rattle.cbor_checker.proofs.ReadLaws.{joined, held}
use Rattle.cbor_checker.proofs.laws.joined_pieces.Goals as goal

pub returns : goal.returns
returns c = record { both = joined; first = held }
