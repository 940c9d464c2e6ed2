use Rattle.std.proofs.Common.{◌*◌}
use Rattle.std.specs.Fmt.{HasWritten, IsPlainFormatter}
use Rattle.cbor_dump.specs.RowTexts.{blank}
use Rattle.cbor_dump.proofs.rows.write_indent.Given as goal

abbrev pub invariant-levels : goal.invariant-levels
invariant-levels g l = IsPlainFormatter l.fn.f
    → HasWritten g.W.Write.write_str_gives l.fn.f (blank (3 * l._level)) l.f
