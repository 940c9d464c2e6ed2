use Rattle.std.proofs.Common.{◌<◌, arith}
use Rattle.cbor_copier.proofs.PieceLaws.{piece_more}
use Rattle.cbor_copier.proofs.pieces.pieces_run.Goals as goal

pub pieces-init : goal.pieces-init
pieces-init c = record {
  within = omega arith;
  last = omega arith;
  kept = λ some. absurd (omega (arith, some));
}

pub pieces-preserved : goal.pieces-preserved
pieces-preserved c =
    let some : 0 < c.piece_len-len.result = omega (arith, c.if-len-eq0.false) in
    let so_far = c.pieces.invariant in
    record {
      within = c.piece_len-len.ensures.within;
      last = omega arith;
      kept = λ positive.
          piece_more c.args.kind c.pieces.last c.pieces.at c.piece_len-len.result c.args.bytes.now so_far.within
          so_far.kept (c.piece_len-len.ensures.kept some);
    }
