use Rattle.ciborium_ll.specs.Encoding.{WritesAll}
use Rattle.cbor_diag.specs.ItemTexts.{new_line}
use Rattle.cbor_diag.proofs.layout.Line.begin.Given as goal

abbrev pub invariant-levels : goal.invariant-levels
invariant-levels g l = WritesAll g.W.Write l.fn.writer (new_line l._level) l.writer
