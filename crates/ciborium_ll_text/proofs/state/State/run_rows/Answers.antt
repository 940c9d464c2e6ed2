use Rattle.std.proofs.Common.{arith}
use Rattle.ciborium_ll_text.proofs.RowLaws.{row_on}
use Rattle.ciborium_ll_text.proofs.state.State.run_rows.Goals as goal

pub loop-byte-preserved : goal.loop-byte-preserved
loop-byte-preserved c =
    let fits = c.type_inv.bytes c.loop-byte.byte-index in
    row_on c.args.self c.args.bytes.now c.loop-byte.byte-index c.loop-byte.row c.loop-byte.invariant
    c.loop-byte-test.true (omega arith)
