use Rattle.std.proofs.Common.{rules}
use Rattle.ciborium_ll_grammar.specs.Strings.{Bytes}
use Rattle.ciborium_ll.proofs.PiecesWritten.{value_marked}
use Rattle.ciborium_ll.proofs.laws.pieces.write_bytes.Goals as goal

pub returns : goal.returns
returns g c =
    value_marked g.W.Write Bytes c.args.segment c.args.value.now _ _ c.bytes.result tt (search rules)
    c.bytes.ensures.value c.bytes.ensures.target
