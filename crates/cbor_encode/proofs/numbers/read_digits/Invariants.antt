use Rattle.std.proofs.Common.{◌≤◌}
use Rattle.cbor_encode.specs.Left.{left_of}
use Rattle.cbor_encode.proofs.numbers.read_digits.Given as goal

abbrev pub invariant-digits : goal.invariant-digits
invariant-digits l = left_of l.cursor ≤ left_of l.initial.cursor

abbrev pub decreases-digits : goal.decreases-digits
decreases-digits l = left_of l.cursor
