use Rattle.std.proofs.Common.{refl, ◌∙◌, arith}
use Rattle.std.proofs.lemmas.List.{drop_more, drop_all}
use Rattle.ciborium_ll.proofs.PiecesWritten.{midway_first, midway_more, midway_stops, midway_last}
use Rattle.ciborium_ll.proofs.laws.pieces.write_pieces.Goals as goal

pub pieces-init : goal.pieces-init
pieces-init g c = record {
  midway = midway_first g.W.Write c.args.pieces.now c.args.encoder.now.writer;
  target = refl;
}

pub returns-in_err-write_piece : goal.returns-in_err-write_piece
returns-in_err-write_piece g c =
    let all = c.args.pieces.now in
    let wrote = c.in_err-write_piece.ensures in
    record {
      elements = midway_stops g.W.Write wrote.marks (drop_more all c.pieces.piece-index _ (omega arith))
          c.pieces.invariant.midway wrote.are c.from_residual.result c.from_residual.ensures.0 wrote.bytes;
      target = wrote.target ∙ c.pieces.invariant.target;
    }

pub pieces-preserved : goal.pieces-preserved
pieces-preserved g c =
    let all = c.args.pieces.now in
    let wrote = c.in_ok-write_piece.ensures in
    record {
      midway = midway_more g.W.Write wrote.marks (drop_more all c.pieces.piece-index _ (omega arith))
          c.pieces.invariant.midway wrote.are wrote.element wrote.bytes;
      target = wrote.target ∙ c.pieces.invariant.target;
    }

pub returns : goal.returns
returns g c = record {
  elements = midway_last g.W.Write (drop_all c.pieces.piece-index c.args.pieces.now (omega arith))
      c.pieces.invariant.midway;
  target = c.pieces.invariant.target;
}
