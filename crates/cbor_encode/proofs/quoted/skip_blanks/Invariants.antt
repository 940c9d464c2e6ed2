use Rattle.std.proofs.Common.{◌≤◌}
use Rattle.cbor_encode.specs.Left.{left_of}
use Rattle.cbor_encode.proofs.quoted.skip_blanks.Given as goal

abbrev pub invariant-blanks : goal.invariant-blanks
invariant-blanks l = left_of l.cursor ≤ left_of l.fn.cursor

abbrev pub decreases-blanks : goal.decreases-blanks
decreases-blanks l = left_of l.cursor
