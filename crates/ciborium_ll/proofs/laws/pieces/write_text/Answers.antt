use Rattle.std.proofs.Common.{rules}
use Rattle.ciborium_ll_grammar.specs.Strings.{Text}
use Rattle.ciborium_ll_text.proofs.Utf8Laws.{from_std}
use Rattle.ciborium_ll.proofs.PiecesWritten.{value_marked}
use Rattle.ciborium_ll.proofs.laws.pieces.write_text.Goals as goal

pub returns : goal.returns
returns g c =
    value_marked g.W.Write Text c.args.segment c.args.value.now _ _ c.text.result
    (from_std c.args.value.now c.utf8.value) (search rules) c.text.ensures.written.value c.text.ensures.written.target
