use Rattle.std.proofs.Common.{◌<◌, ◌≤◌, ◌+◌}
use Rattle.cbor_encode.specs.Left.{left_of}
use Rattle.cbor_encode.specs.Chunks.{AreWithin}
use Rattle.cbor_encode.specs.Scalars.{kind_of}
use Rattle.cbor_encode.proofs.strings.put_opens.Given as goal

abbrev pub invariant-opens : goal.invariant-opens
invariant-opens l = record {
  within : left_of l.cursor ≤ left_of l.fn.cursor;
  some : 0 < l.opens;
  counted : l.opens + left_of l.cursor ≤ l.fn.opens + left_of l.fn.cursor;
  chunks : AreWithin l.spelling (kind_of l.is_text) l.opens l.strings.items;
}

abbrev pub decreases-opens : goal.decreases-opens
decreases-opens l = left_of l.cursor
