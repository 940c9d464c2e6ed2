-- The rest of a nest after several items.
use Rattle.std.proofs.Common.{◌≡◌, ℕ, suc, ◌-◌, ◌*◌, ◌%◌, ◌≤◌, ◌==◌, if◌then◌else◌, Some, None, arith}
use Rattle.std.proofs.lemmas.Bool.Decides.{nat_tests}
use Rattle.ciborium_ll_grammar.specs.declared.hdr.Header.{Header}
use Rattle.ciborium_ll_grammar.specs.declared.hdr.Header.TheVariants as h
use Rattle.ciborium_ll_grammar.specs.declared.remaining.Remaining.{Remaining}
use Rattle.ciborium_ll_grammar.specs.declared.remaining.Remaining.TheVariants as r
use Rattle.ciborium_ll_grammar.specs.Remaining.{IsNest, contents, next}
use Rattle.cbor_checker.specs.Levels.{ends_before}
use Rattle.cbor_checker.specs.Plain.{pairs_of}
use Rattle.cbor_skip.specs.Due.{TakesMore, may_close}

-- The rest of a nest after `n` items.
abbrev pub reached : Header → ℕ → Remaining
reached (h.Tag number) n = r.Items (1 - n)
reached (h.Array (Some len)) n = r.Items (len - n)
reached (h.Map (Some len)) n = pairs_of (2 * len - n)
reached (h.Map None) n = if n % 2 == 0 then r.OpenPairs else r.OpenValue
reached x n = contents x

pub reached_first : (x : Header) → reached x 0 ≡ contents x
reached_first x = grind (arith, nat_tests)

pub reached_next : (x : Header) (n : ℕ) → TakesMore x n → next (reached x n) ≡ Some (reached x (suc n))
reached_next x n takes = grind (arith, nat_tests)

-- A break may stand in place of the next item exactly if `may_close` holds.
pub reached_closes : (x : Header) (n : ℕ) → TakesMore x n → ends_before (reached x (suc n)) ≡ may_close x n
reached_closes x n takes = grind (arith, nat_tests)

pub takes_before : (x : Header) (m n : ℕ) → TakesMore x n → m ≤ n → TakesMore x m
takes_before x m n takes le = grind (arith, nat_tests)

pub takes_nest : (x : Header) (n : ℕ) → TakesMore x n → IsNest x
takes_nest x n takes = grind (arith, nat_tests)
