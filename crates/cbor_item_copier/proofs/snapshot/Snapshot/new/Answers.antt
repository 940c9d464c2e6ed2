use Rattle.cbor_item_copier.proofs.snapshot.Snapshot.new.Goals as goal

pub returns : goal.returns
returns c = λ holds. c.new.ensures holds.0
