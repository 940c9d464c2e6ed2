use Rattle.std.proofs.Common.{◌≤◌, length}
use Rattle.tool_files.proofs.CanonLaws.{Rewrites}
use Rattle.tool_files.proofs.canon.canonicalize_items.Given as goal

-- The bytes begin with items whose encodings these are, and the rest follows.
abbrev pub invariant-items : goal.invariant-items
invariant-items l = record {
  rewrites : Rewrites l.order l.depth l.bytes l.encodings.items l.rest;
  within : length l.rest ≤ length l.bytes;
}

abbrev pub decreases-items : goal.decreases-items
decreases-items l = length l.rest
