use Rattle.cbor_item_copier.proofs.ReadLaws.{few_held, fresh_clear, some_held}
use Rattle.cbor_item_copier.proofs.laws.few_held.Goals as goal

pub returns : goal.returns
returns c = record { none = fresh_clear; few = few_held; some = some_held }
