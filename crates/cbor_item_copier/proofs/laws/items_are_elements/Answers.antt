use Rattle.std.proofs.Common.{refl}
use Rattle.cbor_item_copier.proofs.RunLaws.{item_run, same_runs}
use Rattle.cbor_item_copier.proofs.laws.items_are_elements.Goals as goal

pub returns : goal.returns
returns c = record {
  some = λ allowed depth item i. let o = item_run allowed depth item i in (o.count, o.marks, o.run);
  one = λ item count other marks others run run'. same_runs count item marks run other item others run' refl;
}
