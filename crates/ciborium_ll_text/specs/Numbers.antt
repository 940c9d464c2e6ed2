-- The state of a text (Unicode, Table 3-7) as a plain number.
use Rattle.std.specs.Prelude.{ℕ, ◌==◌, Option, Some, None, if◌then◌else◌}
use Rattle.ciborium_ll_text.specs.declared.state.State.{State}
use Rattle.ciborium_ll_text.specs.declared.state.State.TheVariants as s

-- The state that has this number. The number 1 is `OneDue`, and 9 is no state.
abbrev pub state_in : ℕ → Option State
state_in text =
    if text == 0 then Some s.Between else
    (if text == 1 then Some s.OneDue else
    (if text == 2 then Some s.TwoDue else
    (if text == 3 then Some s.ThreeDue else
    (if text == 4 then Some s.BehindE0 else
    (if text == 5 then Some s.BehindEd else
    (if text == 6 then Some s.BehindF0 else
    (if text == 7 then Some s.BehindF4 else
    (if text == 8 then Some s.Damaged else None))))))))
