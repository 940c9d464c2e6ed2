use Rattle.std.proofs.Common.{◌≤◌}
use Rattle.cbor_encode.specs.Left.{left_of}
use Rattle.cbor_encode.proofs.quoted.read_base64.Given as goal

abbrev pub invariant-digits : goal.invariant-digits
invariant-digits l = left_of l.cursor ≤ left_of l.fn.cursor

abbrev pub decreases-digits : goal.decreases-digits
decreases-digits l = left_of l.cursor
