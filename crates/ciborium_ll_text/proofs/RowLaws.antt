-- The rows of the table give the state after each byte.
use Rattle.std.proofs.lemmas.Bool.Decides.{nat_tests}
use Rattle.std.proofs.Common.{◌≡◌, ℕ, ◌/◌, ◌%◌, ◌^◌, ◌<◌, ◌+◌, List, map, length, take, get_or, refl, sym, ap, ◌∙◌}
use Rattle.std.proofs.Common.{arith}
use Rattle.std.proofs.lemmas.List.{get_or-map}
use Rattle.std.proofs.lemmas.List.FromFn.{get_or-map-range_with_len}
use Rattle.std.specs.List.{range_with_len}
use Rattle.ciborium_ll_text.specs.declared.state.State.{State}
use Rattle.ciborium_ll_text.specs.declared.state.State.TheVariants as s
use Rattle.ciborium_ll_text.specs.declared.rows.TheConstants.{ROWS}
use Rattle.ciborium_ll_text.specs.Rows.{shift_of}
use Rattle.ciborium_ll_text.specs.States.{is_from, after_first, after_next, after_byte, after}
use Rattle.ciborium_ll_text.proofs.StateLaws.{after-run}

-- The entry of a state in a row.
abbrev entry : State → ℕ → ℕ
entry state row = row / 2 ^ shift_of state % 64

-- The entries of a state are the shifts of the states after each byte.
entries : (state : State)
    → map (entry state) ROWS ≡ map (λ (b : ℕ). shift_of (after_byte state b)) (range_with_len 0 256)
unfolding is_from after_first after_next
entries s.Between = refl
entries s.OneDue = refl
entries s.TwoDue = refl
entries s.ThreeDue = refl
entries s.BehindE0 = refl
entries s.BehindEd = refl
entries s.BehindF0 = refl
entries s.BehindF4 = refl
entries s.Damaged = refl

-- The look-up of one byte gives the shift of the state after the byte.
pub row_step : (state : State) (b : ℕ) → b < 256
    → get_or ROWS b 0 / 2 ^ shift_of state % 64 ≡ shift_of (after_byte state b)
row_step state b l =
    sym (get_or-map (entry state) ROWS b 0 0 l)
    ∙ (ap (λ (t : List ℕ). get_or t b 0) (entries state)
    ∙ get_or-map-range_with_len (λ (b : ℕ). shift_of (after_byte state b)) 0 256 b b 0 l (omega arith))

-- If the row has the state after `i` bytes, the next look-up gives the state after `i + 1` bytes.
pub row_on : (state : State) (x : List ℕ) (i row : ℕ) → row % 64 ≡ shift_of (after state (take i x)) → i < length x
    → get_or x i 0 < 256
    → get_or ROWS (get_or x i 0) 0 / 2 ^ (row % 64) % 64 ≡ shift_of (after state (take (i + 1) x))
row_on state x i row e l f = grind (arith, nat_tests, row_step, after-run)

-- Two states whose entries begin at the same bit are the same.
pub same_shift : (state other : State) → shift_of state ≡ shift_of other → state ≡ other
same_shift state other e = grind arith
