use Rattle.std.specs.Fmt.{HasWritten, IsPlainFormatter}
use Rattle.cbor_escapes.specs.Escapes.{terminal_texts}
use Rattle.cbor_escapes.proofs.write_text.Given as goal

abbrev pub invariant-characters : goal.invariant-characters
invariant-characters g l = IsPlainFormatter l.fn.f
    → HasWritten g.W.Write.write_str_gives l.fn.f (terminal_texts l.yielded) l.f
