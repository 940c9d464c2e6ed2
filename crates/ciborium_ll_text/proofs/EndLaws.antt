-- The number of bytes that may end a text in a state.
use Rattle.std.proofs.Common.{◌≡◌, ℕ, suc, ◌+◌, true, List, [], ◌∷◌, length, refl, arith, le-leb}
use Rattle.std.proofs.lemmas.Bool.Decides.{nat_tests}
use Rattle.ciborium_ll_text.specs.declared.state.State.{State}
use Rattle.ciborium_ll_text.specs.declared.state.State.TheVariants as s
use Rattle.ciborium_ll_text.specs.States.{is_from, after_first, after_next, after, after_byte, may_end}

-- A text that may end `n` bytes after the next byte may end `n + 1` bytes from here.
pub one_more_due : (state : State) (b n : ℕ) → may_end (after_byte state b) n ≡ true → may_end state (suc n) ≡ true
unfolding is_from after_first after_next
one_more_due state b n may = grind (arith, nat_tests)

-- If bytes lead to the end of a character, the text may end after this number of bytes.
pub text_may_end : (state : State) (body : List ℕ) → after state body ≡ s.Between → may_end state (length body) ≡ true
text_may_end state [] e = rw e (le-leb 0 0 (omega arith))
text_may_end state (b ∷ body) e = one_more_due state b (length body) (text_may_end (after_byte state b) body e)

-- If a text may end after no more bytes, its state is between two characters.
pub none_left : (state : State) → may_end state 0 ≡ true → state ≡ s.Between
none_left state may = grind (arith, nat_tests)

-- If a text may end `left` bytes after `xs`, it may end `length xs + left` bytes from the first state.
pub may_back : (xs : List ℕ) (state : State) (left k : ℕ) → k ≡ length xs + left → may_end (after state xs) left ≡ true
    → may_end state k ≡ true
may_back [] state left k e may = let same : left ≡ k = omega (arith, e) in rw same at may
may_back (x ∷ xs) state left k e may =
    grind (arith, nat_tests, one_more_due, may_back xs (after_byte state x) left (length xs + left) refl may)
