use Rattle.std.proofs.Common.{◌≤◌}
use Rattle.cbor_encode.specs.Left.{left_of}
use Rattle.cbor_encode.specs.Chunks.{AreWithin}
use Rattle.cbor_encode.specs.Scalars.{kind_of}
use Rattle.cbor_encode.proofs.strings.close_opens.Given as goal

abbrev pub invariant-ends : goal.invariant-ends
invariant-ends l = record {
  within : left_of l.cursor ≤ left_of l.fn.cursor;
  fewer : l.opens ≤ l.fn.opens;
  chunks : AreWithin l.fn.spelling (kind_of l.is_text) l.opens l.strings.items;
}

abbrev pub decreases-ends : goal.decreases-ends
decreases-ends l = left_of l.cursor
