use Rattle.std.proofs.Common.{◌≤◌, ◌+◌}
use Rattle.cbor_encode.specs.Left.{left_of}
use Rattle.cbor_encode.specs.Chunks.{AreWithin}
use Rattle.cbor_encode.specs.Scalars.{kind_of}
use Rattle.cbor_encode.proofs.strings.read_chunks.Given as goal

abbrev pub invariant-chunks : goal.invariant-chunks
invariant-chunks l = record {
  within : left_of l.cursor ≤ left_of l.fn.cursor;
  counted : l.opens + left_of l.cursor ≤ 1 + left_of l.fn.cursor;
  chunks : AreWithin l.spelling (kind_of l.is_text) l.opens l.strings.items;
}

abbrev pub decreases-chunks : goal.decreases-chunks
decreases-chunks l = left_of l.cursor
