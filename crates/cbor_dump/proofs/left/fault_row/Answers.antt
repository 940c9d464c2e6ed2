use Rattle.std.proofs.Common.{◌<◌, length, arith}
use Rattle.cbor_dump.specs.Takings.{taken_bytes}
use Rattle.cbor_dump.proofs.RefusedLaws.{row_refused}
use Rattle.cbor_dump.proofs.left.fault_row.Goals as goal

pub returns-clause-refused : goal.returns-clause-refused
returns-clause-refused g c =
    let value = c.len.ensures.value in
    let other = c.if-len-eq0.false in
    let some : 0 < length (taken_bytes c.args.taken.now) = omega (arith, value, other) in
    row_refused c.row.result _ _ c.args.level c.args.offset _ some c.row.ensures.refused
