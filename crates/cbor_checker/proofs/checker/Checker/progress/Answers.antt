use Rattle.std.proofs.Common.{refl, sym, ◌∙◌}
use Rattle.cbor_checker.specs.Checking.{Answers, HasRead, spot_of}
use Rattle.cbor_checker.proofs.TellLaws.{never_long, told}
use Rattle.cbor_checker.proofs.checker.Checker.progress.Goals as goal

pub returns-clause-tells : goal.returns-clause-tells
unfolding HasRead
returns-clause-tells c = λ allowed depth read is.
    let checker = c.args.self.now in
    told allowed depth read _ _ (c.answer.ensures (spot_of checker) refl refl refl) is checker.position.left
    checker.position.begun

pub returns-clause-is : goal.returns-clause-is
unfolding Answers
returns-clause-is c = c.answer.ensures (spot_of c.args.self.now) refl refl refl

pub returns-clause-long : goal.returns-clause-long
returns-clause-long c = λ far.
    let spot = spot_of c.args.self.now in
    never_long spot.phase spot (sym (c.answer.ensures spot refl refl refl) ∙ far)
