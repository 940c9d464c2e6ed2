use Rattle.std.proofs.Common.{◌≤◌, length}
use Rattle.cbor_encode.specs.Left.{left_of}
use Rattle.cbor_encode.specs.Sequences.{AreSequence}
use Rattle.cbor_encode.proofs.sequences.read_sequence.Given as goal

abbrev pub invariant-items : goal.invariant-items
invariant-items l = record {
  within : left_of l.cursor ≤ length l.text;
  items : AreSequence l.rules.spelling l.depth l.bytes.items;
}

abbrev pub decreases-items : goal.decreases-items
decreases-items l = left_of l.cursor
