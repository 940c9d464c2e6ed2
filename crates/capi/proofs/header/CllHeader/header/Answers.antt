use Rattle.std.proofs.Common.{rules}
use Rattle.capi.proofs.header.CllHeader.header.Goals as goal

pub returns-then-eq-clause-some : goal.returns-then-eq-clause-some
returns-then-eq-clause-some c = search rules
