use Rattle.std.proofs.Common.{refl, subst, sym}
use Rattle.cbor_checker.specs.Checking.{HasRead, HoldsSome, Keeps, Saves}
use Rattle.cbor_checker.specs.Steps.{IsFed}
use Rattle.cbor_checker.proofs.checker.Checker.load.Goals as goal

pub returns-in_default-clause-kept : goal.returns-in_default-clause-kept
unfolding Keeps
returns-in_default-clause-kept c = λ allowed depth read keeps.
    let (spot, fed, holds) = keeps in absurd (c.in_default.ensures.found spot holds)

pub returns-clause-kept : goal.returns-clause-kept
unfolding HasRead Keeps
returns-clause-kept c = λ allowed depth read keeps.
    let (spot, fed, holds) = keeps in
    (refl, subst (IsFed allowed depth read) (sym (c.in-Some.ensures.found spot holds)) fed)

pub returns-clause-some : goal.returns-clause-some
unfolding Saves
returns-clause-some c = λ is. c.in-Some.ensures.some

pub returns-in_default-clause-found : goal.returns-in_default-clause-found
unfolding HoldsSome
returns-in_default-clause-found c = λ holds. absurd (c.in_default.ensures.found holds.0 holds.1)
