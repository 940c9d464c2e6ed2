use Rattle.std.proofs.Common.{subst}
use Rattle.cbor_checker.specs.Checking.{Answers}
use Rattle.cbor_item_copier.proofs.StepLaws.{at_fault, not_fault}
use Rattle.cbor_item_copier.proofs.copier.has_fault.Goals as goal

pub returns-in-Fault-clause-yes : goal.returns-in-Fault-clause-yes
returns-in-Fault-clause-yes c = λ is.
    let answers = subst (Answers c.args.checker.now) c.in-Fault.is c.progress.ensures.is in
    (at_fault c.args.checker.now _ answers).0 tt

pub returns-in_default-clause-no : goal.returns-in_default-clause-no
returns-in_default-clause-no c = λ is has.
    not_fault c.progress.result c.in_default.not-Fault
    ((at_fault c.args.checker.now c.progress.result c.progress.ensures.is).1 has)
