use Rattle.cbor_checker.proofs.SavedLaws.{saved_answer, saved_end}
use Rattle.cbor_checker.proofs.laws.one_saved.Goals as goal

pub returns : goal.returns
returns c = record { answer = saved_answer; end = saved_end }
