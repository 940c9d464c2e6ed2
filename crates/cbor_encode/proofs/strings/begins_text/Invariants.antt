use Rattle.std.proofs.Common.{◌≤◌}
use Rattle.cbor_encode.specs.Left.{left_of}
use Rattle.cbor_encode.proofs.strings.begins_text.Given as goal

abbrev pub invariant-opens : goal.invariant-opens
invariant-opens l = left_of l.ahead ≤ left_of l.cursor

abbrev pub decreases-opens : goal.decreases-opens
decreases-opens l = left_of l.ahead
