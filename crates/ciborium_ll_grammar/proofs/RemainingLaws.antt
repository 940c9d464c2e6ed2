-- What remains due within a nest after one more item.
use Rattle.std.proofs.Common.{◌≡◌, ℕ, suc, Some, None, arith}
use Rattle.ciborium_ll_grammar.specs.declared.hdr.Header.{Header}
use Rattle.ciborium_ll_grammar.specs.declared.hdr.Header.TheVariants as h
use Rattle.ciborium_ll_grammar.specs.declared.remaining.Remaining.{Remaining}
use Rattle.ciborium_ll_grammar.specs.declared.remaining.Remaining.TheVariants as r
use Rattle.ciborium_ll_grammar.specs.Remaining.{IsRemaining, next}

-- One more item leaves the rest after it.
pub next_remains : (x : Header) (count : ℕ) (remaining after : Remaining) → next remaining ≡ Some after
    → IsRemaining x count remaining → IsRemaining x (suc count) after
next_remains (h.Map None) count r.OpenPairs after e (pairs, is) =
    let same : r.OpenValue ≡ after = cc in rw (← same) (pairs, omega (arith, is))
next_remains (h.Map None) count r.OpenValue after e (pairs, is) =
    let same : r.OpenPairs ≡ after = cc in rw (← same) (suc pairs, omega (arith, is))
next_remains x count remaining after e is = grind arith
