use Rattle.std.proofs.Common.{◌≡◌, drop}
use Rattle.ciborium_ll.proofs.PiecesWritten.{Midway}
use Rattle.ciborium_ll.proofs.laws.pieces.write_pieces.Given as goal

abbrev pub invariant-pieces : goal.invariant-pieces
invariant-pieces g l = record {
  midway : Midway g.W.Write l.fn.pieces (drop l.piece-index l.fn.pieces) l.fn.encoder.writer l.encoder.writer;
  target : g.W.Write.target l.encoder.writer ≡ g.W.Write.target l.fn.encoder.writer;
}
