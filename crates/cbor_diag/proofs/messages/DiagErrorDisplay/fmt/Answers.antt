use Rattle.std.proofs.Common.{rules}
use Rattle.cbor_diag.proofs.messages.DiagErrorDisplay.fmt.Goals as goal

pub returns-in-Write-clause-writes : goal.returns-in-Write-clause-writes
returns-in-Write-clause-writes g c = search rules
