use Rattle.std.proofs.Common.{rules}
use Rattle.cbor_checker.proofs.walk.Walk.is_due.Goals as goal

pub returns : goal.returns
returns c = search rules
