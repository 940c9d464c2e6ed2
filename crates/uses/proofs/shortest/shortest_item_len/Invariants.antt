use Rattle.std.proofs.Common.{length, take}
use Rattle.uses.proofs.ShortestLaws.{Spelled}
use Rattle.uses.proofs.shortest.shortest_item_len.Given as goal

abbrev pub invariant-elements : goal.invariant-elements
invariant-elements l = Spelled (take l.len l.fn.bytes) l.rest

-- An element has at least one byte.
abbrev pub decreases-elements : goal.decreases-elements
decreases-elements l = length l.rest
