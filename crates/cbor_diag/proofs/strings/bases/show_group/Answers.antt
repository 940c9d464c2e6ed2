use Rattle.std.proofs.Common.{rules}
use Rattle.cbor_diag.proofs.BaseLaws.{front_encoded}
use Rattle.cbor_diag.proofs.strings.bases.show_group.Goals as goal

pub returns : goal.returns
returns g c = rw (← front_encoded c.args.engine.now c.args.bytes.now _ _ c.in-Ok.len (search rules) c.in-Ok.ensures.written) (search rules)
