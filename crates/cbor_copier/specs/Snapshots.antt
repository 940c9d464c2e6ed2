-- A spot as plain numbers, which a caller keeps in its own memory.
use Rattle.std.specs.Prelude.{◌≡◌, ◌==◌, ◌≤◌, ℕ, true, List, length, take, Option, Some, None, if◌then◌else◌}
use Rattle.ciborium_ll_grammar.specs.declared.limits.TheConstants.{LONGEST_TITLE}
use Rattle.ciborium_ll_text.specs.declared.state.State.{State}
use Rattle.ciborium_ll_text.specs.Numbers.{state_in}
use Rattle.cbor_copier.specs.declared.phase.Phase.{Phase}
use Rattle.cbor_copier.specs.declared.phase.Phase.TheVariants as p
use Rattle.cbor_parser.specs.declared.strings.Within.{Within}
use Rattle.cbor_parser.specs.Saving.{spelling_in}
use Rattle.cbor_parser.specs.Strings.{open_count, within_in}
use Rattle.cbor_copier.specs.declared.snapshot.Snapshot.{Snapshot}
use Rattle.cbor_copier.specs.Fronts.{has_left, most_front}
use Rattle.cbor_copier.specs.Spots.{Spot}

-- This many bytes of a text are due, if there is a state: two in the state `Between`, as after `62`.
abbrev pub text_in : ℕ → Option State → Option Phase
text_in left (Some state) = Some (p.Text left state)
text_in left None = None

-- The phase with these numbers. `number` counts the bytes due of a body, or is the place of a fault. Kind 2 with the
-- number 7 is seven bytes of a byte string, and 5 with 7 is a fault at 7. 0 is no kind.
abbrev pub phase_in : ℕ → ℕ → ℕ → Option Phase
phase_in kind number text =
    if kind == 1 then Some p.Title else
    (if kind == 2 then Some (p.Bytes number) else
    (if kind == 3 then text_in number (state_in text) else
    (if kind == 4 then Some p.Ended else
    (if kind == 5 then Some (p.Faulted number) else None))))

-- The bytes of a title or of a character that isn't whole. If `front_len` is 1 and `front` begins with `19 01`, it is
-- `19`.
abbrev pub front_in : Snapshot → List ℕ
front_in snapshot = take snapshot.front_len snapshot.front

-- A copier can have this phase and these open strings with the other numbers. A body has bytes left, and each open
-- string has come with a byte. No more bytes are held back than a cut title or character has: `19 01` may be, and
-- `19 01 00` may not. No more are to be written than the longest title has.
pub record IsState (snapshot : Snapshot) (phase : Phase) (within : Within) : Type 0 where
  pub some : has_left phase ≡ true
  pub counted : open_count within ≤ snapshot.offset
  pub long : snapshot.front_len ≤ LONGEST_TITLE
  pub room : length (front_in snapshot) ≤ most_front phase (front_in snapshot)
  pub few : snapshot.pending_len ≤ LONGEST_TITLE

-- The plain numbers are those of this spot. After `18` they are, among others, the phase 1, the byte `18` held back,
-- and the offset 1.
pub record Holds (snapshot : Snapshot) (spot : Spot) : Type 0 where
  pub allowed : spelling_in snapshot.strict ≡ Some spot.allowed
  pub phase : phase_in snapshot.phase snapshot.number snapshot.text ≡ Some spot.phase
  pub front : front_in snapshot ≡ spot.front
  pub within : within_in snapshot.strings snapshot.more ≡ Some spot.within
  pub left : snapshot.left ≡ spot.left
  pub place : snapshot.place ≡ spot.place
  pub offset : snapshot.offset ≡ spot.offset
  pub put : take snapshot.pending_len snapshot.pending ≡ spot.put
  pub is_state : IsState snapshot spot.phase spot.within
