use Rattle.std.proofs.Common.{◌≤◌, ◌-◌, length}
use Rattle.cbor_floats.proofs.FloatLaws.{SpelledTo}
use Rattle.cbor_floats.proofs.point_due.Given as goal

abbrev pub invariant-digits : goal.invariant-digits
invariant-digits l = record {
  within : l.at ≤ length l.digits;
  so_far : SpelledTo l.digits l.at;
}

-- Each step leaves one byte less.
abbrev pub decreases-digits : goal.decreases-digits
decreases-digits l = length l.digits - l.at
