use Rattle.std.specs.Fmt.{HasWritten, IsPlainFormatter}
use Rattle.cbor_dump.specs.RowTexts.{characters_text}
use Rattle.cbor_dump.proofs.rows.characters.Given as goal

abbrev pub invariant-characters : goal.invariant-characters
invariant-characters g l = IsPlainFormatter l.fn.f
    → HasWritten g.W.Write.write_str_gives l.fn.f (characters_text l.yielded) l.f
