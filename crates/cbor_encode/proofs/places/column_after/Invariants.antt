use Rattle.std.proofs.Common.{◌≡◌, ◌≤◌, ◌+◌, length}
use Rattle.cbor_encode.specs.Places.{column_after}
use Rattle.cbor_encode.proofs.places.column_after.Given as goal

abbrev pub invariant-bytes : goal.invariant-bytes
invariant-bytes l = record {
  so_far : column_after 1 l.fn.bytes ≡ column_after l.column l.rest;
  bound : l.column + length l.rest ≤ 1 + length l.fn.bytes;
}

abbrev pub decreases-bytes : goal.decreases-bytes
decreases-bytes l = length l.rest
