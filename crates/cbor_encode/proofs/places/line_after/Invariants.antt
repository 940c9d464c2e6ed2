use Rattle.std.proofs.Common.{◌≡◌, ◌≤◌, ◌+◌, length}
use Rattle.cbor_encode.specs.Places.{line_after}
use Rattle.cbor_encode.proofs.places.line_after.Given as goal

abbrev pub invariant-bytes : goal.invariant-bytes
invariant-bytes l = record {
  so_far : line_after 1 l.fn.bytes ≡ line_after l.line l.rest;
  bound : l.line + length l.rest ≤ 1 + length l.fn.bytes;
}

abbrev pub decreases-bytes : goal.decreases-bytes
decreases-bytes l = length l.rest
