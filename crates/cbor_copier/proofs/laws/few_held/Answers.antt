use Rattle.cbor_copier.proofs.ReadLaws.{fresh_clear, held_few, held_some}
use Rattle.cbor_copier.proofs.laws.few_held.Goals as goal

pub returns : goal.returns
returns c = record { none = fresh_clear; few = held_few; some = held_some }
