use Rattle.cbor_item_copier.proofs.SavedLaws.{saved_answer, saved_end, saved_read, saves_some}
use Rattle.cbor_item_copier.proofs.laws.one_saved.Goals as goal

pub returns : goal.returns
returns c = record { answer = saved_answer; end = saved_end; read = saved_read; some = saves_some }
