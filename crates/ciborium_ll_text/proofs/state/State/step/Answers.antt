use Rattle.std.proofs.Common.{ℕ, ◌/◌, ◌%◌, ◌^◌, ap, ◌∙◌, get_or, arith}
use Rattle.ciborium_ll_text.specs.States.{after_byte}
use Rattle.ciborium_ll_text.specs.declared.rows.TheConstants.{ROWS}
use Rattle.ciborium_ll_text.proofs.RowLaws.{row_step}
use Rattle.ciborium_ll_text.proofs.state.State.step.Goals as goal

pub returns : goal.returns
returns c =
    let fits = c.ranges.byte.fits in
    let row = get_or ROWS c.args.byte 0 in
    c.at.ensures (after_byte c.args.self c.args.byte)
    (ap (λ (z : ℕ). row / 2 ^ z % 64) c.shift.ensures ∙ row_step c.args.self c.args.byte (omega arith))
