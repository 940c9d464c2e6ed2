use Rattle.std.proofs.Common.{subst, sym}
use Rattle.cbor_checker.specs.Checking.{HasRead, HoldsSome, Keeps, Saves}
use Rattle.cbor_checker.specs.Steps.{IsFed}
use Rattle.cbor_checker.proofs.checker.Checker.restore.Goals as goal

pub returns-in_err-restore-clause-kept : goal.returns-in_err-restore-clause-kept
unfolding Keeps
returns-in_err-restore-clause-kept c = λ allowed depth read keeps.
    let (spot, fed, holds) = keeps in absurd (c.in_err-restore.ensures.found spot holds)

pub returns-clause-kept : goal.returns-clause-kept
unfolding HasRead Keeps
returns-clause-kept c = λ allowed depth read keeps.
    let (spot, fed, holds) = keeps in
    subst (IsFed allowed depth read) (sym (c.in_ok-restore.ensures.found spot holds)) fed

pub returns-clause-some : goal.returns-clause-some
unfolding Saves
returns-clause-some c = c.in_ok-restore.ensures.some

pub returns-in_err-restore-clause-found : goal.returns-in_err-restore-clause-found
unfolding HoldsSome
returns-in_err-restore-clause-found c = λ holds. absurd (c.in_err-restore.ensures.found holds.0 holds.1)
