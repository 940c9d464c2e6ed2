-- The place of a state's entry in a row of the table by which a text's state is run.
use Rattle.std.specs.Prelude.{ℕ}
use Rattle.ciborium_ll_text.specs.declared.state.State.{State}
use Rattle.ciborium_ll_text.specs.declared.state.State.TheVariants as s

-- The first of the six bits that a row of the table has for this state. `TwoDue` has the bits 12 to 17.
abbrev pub shift_of : State → ℕ
shift_of s.Between = 0
shift_of s.OneDue = 6
shift_of s.TwoDue = 12
shift_of s.ThreeDue = 18
shift_of s.BehindE0 = 24
shift_of s.BehindEd = 30
shift_of s.BehindF0 = 36
shift_of s.BehindF4 = 42
shift_of s.Damaged = 48
