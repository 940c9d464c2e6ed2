use Rattle.cbor_checker_laws.proofs.AnswerLaws.{skip_answers}
use Rattle.cbor_checker_laws.proofs.laws.skip_answers.Goals as goal

pub returns : goal.returns
returns g c = λ allowed depth fed more fault names. skip_answers allowed depth fed more fault names g.R.Read
