use Rattle.std.proofs.Common.{◌≤◌}
use Rattle.cbor_encode.specs.Left.{left_of}
use Rattle.cbor_encode.proofs.cursor.Cursor.skip_space.Given as goal

abbrev pub invariant-space : goal.invariant-space
invariant-space l = left_of l.self ≤ left_of l.fn.self

abbrev pub decreases-space : goal.decreases-space
decreases-space l = left_of l.self
