use Rattle.std.proofs.Common.{take}
use Rattle.std.specs.Fmt.{HasWritten, IsPlainFormatter}
use Rattle.cbor_dump.specs.RowTexts.{more_text}
use Rattle.cbor_dump.proofs.rows.more_digits.Given as goal

abbrev pub invariant-bytes : goal.invariant-bytes
invariant-bytes g l = IsPlainFormatter l.fn.f
    → HasWritten g.W.Write.write_str_gives l.fn.f (more_text (take l.byte-index l.fn.bytes)) l.f
