-- The bytes that are held back have room.
use Rattle.std.proofs.Common.{◌≡◌, ℕ, zero, suc, ◌+◌, ◌%◌, ◌≤◌, List, true, length, refl, arith}
use Rattle.std.proofs.Common.{slice_index}
use Rattle.std.proofs.lemmas.Bool.Decides.{nat_tests}
use Rattle.ciborium_ll_text.specs.declared.state.State.{State}
use Rattle.ciborium_ll_text.specs.declared.state.State.TheVariants as s
use Rattle.ciborium_ll_text.specs.States.{is_from, after_byte, after_first, after_next, may_end}
use Rattle.ciborium_ll_text.proofs.EndLaws.{none_left}
use Rattle.ciborium_ll_grammar.proofs.TitleKinds.{affix_most}
use Rattle.cbor_copier.specs.declared.phase.Phase.{Phase}
use Rattle.cbor_copier.specs.declared.phase.Phase.TheVariants as p
use Rattle.cbor_copier.specs.Fronts.{most_cut, most_front, has_left}

-- One more byte of a character that isn't whole has room.
pub text_room : (state : State) (byte left length : ℕ) → length ≤ most_cut state
    → may_end (after_byte state byte) left ≡ true
    → (after_byte state byte ≡ s.Between → ⊥)
    → length + 1 ≤ most_cut (after_byte state byte)
unfolding is_from after_first after_next
text_room state byte left length fits may cut = grind (arith, nat_tests)

-- If a character isn't whole, its text has bytes left.
pub text_some : (state : State) (left : ℕ) → may_end state left ≡ true → (state ≡ s.Between → ⊥)
    → has_left (p.Text left state) ≡ true
text_some state zero may cut = absurd (cut (none_left state may))
text_some state (suc left) may cut = refl

-- At most four bytes of a character are held back.
few_cut : (state : State) → most_cut state ≤ 4
few_cut state = grind arith

-- At most eight bytes of a title or of a character are held back.
pub few_held : (phase : Phase) (front : List ℕ) → length front ≤ most_front phase front → length front ≤ 8
few_held p.Title front fits = omega (arith, fits, affix_most (slice_index front 0 % 32))
few_held (p.Bytes left) front fits = omega (arith, fits)
few_held (p.Text left state) front fits = omega (arith, fits, few_cut state)
few_held p.Ended front fits = omega (arith, fits)
few_held (p.Faulted place) front fits = omega (arith, fits)
