use Rattle.std.proofs.Common.{rules}
use Rattle.ciborium_ll.proofs.PiecesWritten.{header_marked}
use Rattle.ciborium_ll.proofs.laws.pieces.write_header.Goals as goal

pub returns : goal.returns
returns g c =
    header_marked g.W.Write c.args.header _ _ c.push.result c.requires (search rules) c.push.ensures.title
    c.push.ensures.target
