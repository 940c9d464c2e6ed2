-- The items that remain due within a nest tell whether one more may stand there, and whether a break may.
use Rattle.std.proofs.Common.{◌≡◌, ℕ, suc, ◌*◌, ◌%◌, ◌==◌, true, false, arith}
use Rattle.std.proofs.Common.{add-one}
use Rattle.std.proofs.Math.Nat.{mul-mod_right, mul-add-mod_self_left}
use Rattle.ciborium_ll_grammar.specs.declared.hdr.Header.{Header}
use Rattle.cbor_skip.specs.Due.{TakesMore, may_close}
use Rattle.cbor_skip.specs.Types.Remaining.{Remaining}
use Rattle.cbor_skip.specs.Remaining.{IsRemaining, is_done, closes}

-- Pairs are an even number of items.
pub even_pairs : (n : ℕ) → ((2 * n) % 2 == 0) ≡ true
even_pairs n = rw (mul-mod_right 2 n)

-- Pairs and a key are an odd number of items.
odd_pairs : (n : ℕ) → (suc (2 * n) % 2 == 0) ≡ false
odd_pairs n = rw (← add-one (2 * n), mul-add-mod_self_left 2 n 1)

-- If something remains, one more item may stand there. A break may stand in its place exactly if `closes` holds.
pub takes_more : (x : Header) (count : ℕ) (remaining : Remaining) → IsRemaining x count remaining
    → is_done remaining ≡ false → TakesMore x count × (may_close x count ≡ closes remaining)
takes_more x count remaining is some = grind (arith, even_pairs, odd_pairs)
