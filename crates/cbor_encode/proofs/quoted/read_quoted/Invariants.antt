use Rattle.std.proofs.Common.{◌≤◌}
use Rattle.cbor_encode.specs.Left.{left_of}
use Rattle.cbor_encode.proofs.quoted.read_quoted.Given as goal

abbrev pub invariant-bytes : goal.invariant-bytes
invariant-bytes l = record {
  within : left_of l.cursor ≤ left_of l.fn.cursor;
  left : l.left ≤ left_of l.fn.cursor;
}

abbrev pub decreases-bytes : goal.decreases-bytes
decreases-bytes l = left_of l.cursor
