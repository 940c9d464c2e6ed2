use Rattle.std.proofs.Common.{◌++◌}
use Rattle.cbor_checker_laws.proofs.AnswerLaws.{runs_here}
use Rattle.cbor_checker_laws.proofs.FaultRuns.{long_named}
use Rattle.cbor_checker_laws.proofs.SameFaultLaws.{break_named, deep_named, syntax_named}
use Rattle.cbor_checker_laws.proofs.laws.same_faults.Goals as goal

pub returns-clause-syntax : goal.returns-clause-syntax
returns-clause-syntax c =
    λ s d fed more fault names. syntax_named fault s d (fed ++ more) (runs_here s d fed more fault names)

pub returns-clause-early : goal.returns-clause-early
returns-clause-early c =
    λ s d fed more fault names. break_named fault s d (fed ++ more) (runs_here s d fed more fault names)

pub returns-clause-deep : goal.returns-clause-deep
returns-clause-deep c =
    λ s d fed more fault names. deep_named fault s d (fed ++ more) (runs_here s d fed more fault names)

pub returns-clause-both : goal.returns-clause-both
returns-clause-both c =
    λ s d fed more fault names. long_named fault s d (fed ++ more) (runs_here s d fed more fault names)
