use Rattle.std.proofs.Common.{◌≤◌}
use Rattle.cbor_encode.specs.Left.{left_of}
use Rattle.cbor_encode.proofs.cursor.Cursor.skip_past.Given as goal

abbrev pub invariant-bytes : goal.invariant-bytes
invariant-bytes l = left_of l.self ≤ left_of l.fn.self

abbrev pub decreases-bytes : goal.decreases-bytes
decreases-bytes l = left_of l.self
