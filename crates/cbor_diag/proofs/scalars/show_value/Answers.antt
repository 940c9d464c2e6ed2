use Rattle.std.proofs.Common.{rules}
use Rattle.cbor_diag.proofs.scalars.show_value.Goals as goal

pub returns-in-Single : goal.returns-in-Single
returns-in-Single g c = search rules
