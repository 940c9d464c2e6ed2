use Rattle.std.proofs.Common.{◌<◌, ◌≤◌, ◌-◌, take, length}
use Rattle.cbor_copier.specs.Plain.{ArePieces}
use Rattle.cbor_copier.proofs.pieces.pieces_run.Given as goal

abbrev pub invariant-pieces : goal.invariant-pieces
invariant-pieces l =
    record {
      within : l.at ≤ length l.bytes;
      last : l.last ≤ l.at;
      kept : 0 < l.at → ArePieces l.kind l.last (take l.at l.bytes);
    }

abbrev pub decreases-pieces : goal.decreases-pieces
decreases-pieces l = length l.bytes - l.at
