use Rattle.cbor_copier.proofs.EndLaws.{end_answers}
use Rattle.cbor_copier.proofs.laws.end_answers.Goals as goal

pub returns : goal.returns
returns c = end_answers
