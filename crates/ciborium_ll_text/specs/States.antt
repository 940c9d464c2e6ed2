-- The state of a text after some of its bytes: between two characters, inside a character, or damaged (Unicode, Table
-- 3-7).
use Rattle.std.specs.Prelude.{◌≡◌, ℕ, ◌<◌, ◌≤◌, Bool, false, ◌&&◌, nat_le, List, [], ◌∷◌, length, take, if◌then◌else◌}
use Rattle.ciborium_ll_text.specs.declared.state.State.{State}
use Rattle.ciborium_ll_text.specs.declared.state.State.TheVariants as s

-- The byte is from the lowest to the highest, both included. `a4` is from `80` to `bf`.
unfoldable pub is_from : ℕ → ℕ → ℕ → Bool
is_from lowest highest byte = nat_le lowest byte && nat_le byte highest

-- The state after a first byte, by the first column of the table (Unicode, Table 3-7). After `c3` it is `OneDue`, after
-- `e2` it is `TwoDue`, and after `80` it is `Damaged`.
unfoldable pub after_first : ℕ → State
after_first byte =
    if is_from 0x00 0x7f byte then s.Between
    else (if is_from 0xc2 0xdf byte then s.OneDue
    else (if is_from 0xe0 0xe0 byte then s.BehindE0
    else (if is_from 0xe1 0xec byte then s.TwoDue
    else (if is_from 0xed 0xed byte then s.BehindEd
    else (if is_from 0xee 0xef byte then s.TwoDue
    else (if is_from 0xf0 0xf0 byte then s.BehindF0
    else (if is_from 0xf1 0xf3 byte then s.ThreeDue
    else (if is_from 0xf4 0xf4 byte then s.BehindF4
    else s.Damaged))))))))

-- `state` if a later byte is from the lowest to the highest, otherwise damaged. From `80` to `bf`, `a4` gives `state`,
-- and `61` gives `Damaged`.
unfoldable pub after_next : ℕ → ℕ → State → ℕ → State
after_next lowest highest state byte = if is_from lowest highest byte then state else s.Damaged

-- The state after one more byte, by the further columns of the table (Unicode, Table 3-7). Only after e0, ed, f0 and f4
-- the next byte has its own range. The bytes `e0 a0` lead to `OneDue`, and `e0 9f` to `Damaged`.
abbrev pub after_byte : State → ℕ → State
after_byte s.Between byte = after_first byte
after_byte s.OneDue byte = after_next 0x80 0xbf s.Between byte
after_byte s.TwoDue byte = after_next 0x80 0xbf s.OneDue byte
after_byte s.ThreeDue byte = after_next 0x80 0xbf s.TwoDue byte
after_byte s.BehindE0 byte = after_next 0xa0 0xbf s.OneDue byte
after_byte s.BehindEd byte = after_next 0x80 0x9f s.OneDue byte
after_byte s.BehindF0 byte = after_next 0x90 0xbf s.TwoDue byte
after_byte s.BehindF4 byte = after_next 0x80 0x8f s.TwoDue byte
after_byte s.Damaged byte = s.Damaged

-- The state after more bytes: `e2 82` leads from `Between` to `OneDue`. From `Between` on, by the law `text_by_state`,
-- the bytes are text exactly if it is `Between`. By the law `damage_by_state`, a text begins with them exactly if it is
-- not `Damaged`.
abbrev pub after : State → List ℕ → State
after state [] = state
after state (byte ∷ bytes) = after (after_byte state byte) bytes

-- A character ends after `count` of the bytes, and none ends after more of them. The last end of `61 e2 82` is 1.
pub record IsLastEnd (bytes : List ℕ) (count : ℕ) : Type 0 where
  pub within : count ≤ length bytes
  pub ends : after s.Between (take count bytes) ≡ s.Between
  pub last : (more : ℕ) → count < more → more ≤ length bytes → after s.Between (take more bytes) ≡ s.Between → ⊥

-- The fewest bytes that end the character (Unicode, Table 3-7). After `e2` they are 2, and after `f0` they are 3.
abbrev pub tail_due : State → ℕ
tail_due s.Between = 0
tail_due s.OneDue = 1
tail_due s.TwoDue = 2
tail_due s.ThreeDue = 3
tail_due s.BehindE0 = 2
tail_due s.BehindEd = 2
tail_due s.BehindF0 = 3
tail_due s.BehindF4 = 3
tail_due s.Damaged = 0

-- A text in this state may end after `left` more bytes: they are enough for the character (Unicode, Table 3-7). After
-- `e2`, a text may end after two more bytes, and not after one.
abbrev pub may_end : State → ℕ → Bool
may_end s.Damaged left = false
may_end state left = nat_le (tail_due state) left
