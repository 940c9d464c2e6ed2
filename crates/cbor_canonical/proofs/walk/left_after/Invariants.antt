use Rattle.std.proofs.Common.{ℕ, List, ◌≡◌, ◌≤◌, ◌*◌, ◌++◌}
use Rattle.ciborium_ll_grammar.specs.declared.spelling.Spelling.TheVariants.{Any}
use Rattle.ciborium_ll_grammar.specs.Items.{AreItems}
use Rattle.cbor_deterministic.specs.Fronts.{InFront}
use Rattle.cbor_deterministic.specs.declared.TheConstants.{MAX_DEPTH}
use Rattle.cbor_canonical.proofs.walk.left_after.Given as goal

abbrev pub invariant-pairs : goal.invariant-pairs
invariant-pairs l = (front rest : List ℕ) → l.depth ≤ MAX_DEPTH → AreItems Any l.depth (2 * l.fn.pairs) front
    → l.fn.bytes ≡ front ++ rest → InFront (AreItems Any l.depth (2 * l.due)) l.rest rest

abbrev pub decreases-pairs : goal.decreases-pairs
decreases-pairs l = l.due
