-- A text by windows of four bytes: each byte may follow the three before it (Unicode, Table 3-7).
use Rattle.std.specs.Prelude.{ℕ, ◌-◌, ◌<◌, ◌≤◌, List, slice_index, nat_lt, nat_le, if◌then◌else◌}
use Rattle.simdutf8.specs.Steps.{Step}
use Rattle.ciborium_ll_text.specs.declared.state.State.{State}
use Rattle.ciborium_ll_text.specs.declared.state.State.TheVariants as s
use Rattle.ciborium_ll_text.specs.States.{after_first}

-- Each byte between two indices may follow the three before it, by the definition `Step` of the kit's crate `simdutf8`
-- (Unicode, Table 3-7). In `61 e2 82 ac` the byte at the index 3 may follow, and in `61 62 63 ac` it may not.
abbrev pub MayFollow : List ℕ → ℕ → ℕ → Type 0
MayFollow bytes from to =
    (i : ℕ) → from ≤ i → i < to
    → Step (slice_index bytes (i - 3)) (slice_index bytes (i - 2)) (slice_index bytes (i - 1)) (slice_index bytes i)

-- The state after bytes that follow one another so, from their last three (Unicode, Table 3-7). The last of the three
-- that begins a character gives the state. After `61 e2 82`, it is `OneDue`.
unfoldable pub after_window : ℕ → ℕ → ℕ → State
after_window x y z =
    if nat_lt z 0x80 then s.Between
    else (if nat_le 0xc0 z then after_first z
    else (if nat_le 0xf0 y then s.TwoDue
    else (if nat_le 0xe0 y then s.OneDue
    else (if nat_le 0xc0 y then s.Between
    else (if nat_le 0xf0 x then s.OneDue
    else s.Between)))))
