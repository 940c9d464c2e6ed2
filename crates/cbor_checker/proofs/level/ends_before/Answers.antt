use Rattle.std.proofs.Common.{rules}
use Rattle.cbor_checker.proofs.level.ends_before.Goals as goal

pub returns-in_default-clause-value : goal.returns-in_default-clause-value
returns-in_default-clause-value c = search rules
