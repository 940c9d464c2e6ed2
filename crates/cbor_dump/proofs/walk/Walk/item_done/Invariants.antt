use Rattle.std.proofs.Common.{ℕ, List}
use Rattle.ciborium_ll_grammar.specs.declared.spelling.Spelling.{Spelling}
use Rattle.cbor_dump.specs.Walks.{IsBehindItem}
use Rattle.cbor_dump.proofs.walk.Walk.item_done.Given as goal

abbrev pub invariant-levels : goal.invariant-levels
invariant-levels l = (allowed : Spelling) (depth whole : ℕ) (bytes : List ℕ)
    → IsBehindItem allowed depth whole l.fn.self l.fn.key bytes → IsBehindItem allowed depth whole l.self l.named bytes

-- Each level that ends leaves one level less.
abbrev pub decreases-levels : goal.decreases-levels
decreases-levels l = l.self.used
