-- A spot as plain numbers, which a caller keeps in its own memory.
use Rattle.std.specs.Prelude.{◌≡◌, ◌==◌, ◌+◌, ◌≤◌, ◌%◌, ℕ, zero, suc, true, List, [], ◌∷◌, Option, Some}
use Rattle.std.specs.Prelude.{None}
use Rattle.std.specs.Prelude.{if◌then◌else◌, slice_index, take}
use Rattle.ciborium_ll_grammar.specs.Title.{affix_len}
use Rattle.ciborium_ll_grammar.specs.declared.limits.TheConstants.{LONGEST_TITLE, MOST_LEVELS}
use Rattle.ciborium_ll_text.specs.declared.state.State.{State}
use Rattle.ciborium_ll_text.specs.Numbers.{state_in}
use Rattle.ciborium_ll_grammar.specs.declared.remaining.Remaining.{Remaining}
use Rattle.ciborium_ll_grammar.specs.declared.remaining.Remaining.TheVariants as l
use Rattle.cbor_checker.specs.declared.phase.Phase.{Phase}
use Rattle.cbor_checker.specs.declared.phase.Phase.TheVariants as p
use Rattle.cbor_checker.specs.declared.phase.Fault.TheVariants as f
use Rattle.cbor_parser.specs.declared.strings.Within.{Within}
use Rattle.cbor_checker.specs.declared.snapshot.Snapshot.{Snapshot}
use Rattle.cbor_parser.specs.Saving.{spelling_in}
use Rattle.cbor_parser.specs.Strings.{open_count, within_in}
use Rattle.cbor_checker.specs.Spots.{Spot}
use Rattle.cbor_checker.specs.Telling.{has_left}

-- This many bytes of a text are due, if there is a state: two in the state `Between`, as after `62`.
abbrev pub text_in : ℕ → Option State → Option Phase
text_in left (Some state) = Some (p.Text left state)
text_in left None = None

-- The phase with these numbers. `number` counts the bytes due of a body, or is the place of a fault. Kind 2 with the
-- number 7 is seven bytes of a byte string, and 5 with 7 is a fault of syntax at 7. 0 is no kind.
abbrev pub phase_in : ℕ → ℕ → ℕ → Option Phase
phase_in kind number text =
    if kind == 1 then Some p.Title else
    (if kind == 2 then Some (p.Bytes number) else
    (if kind == 3 then text_in number (state_in text) else
    (if kind == 4 then Some p.Ended else
    (if kind == 5 then Some (p.Faulted (f.Syntax number)) else
    (if kind == 6 then Some (p.Faulted (f.Break number)) else
    (if kind == 7 then Some (p.Faulted (f.Deep number)) else None))))))

-- The rest of a nest after the item that is due in it, by the number of its kind and a count. Kind 1 with the count 2
-- is two pairs.
abbrev pub level_in : ℕ → ℕ → Option Remaining
level_in kind count =
    if kind == 0 then Some (l.Items count) else
    (if kind == 1 then Some (l.Pairs count) else
    (if kind == 2 then Some (l.Value count) else
    (if kind == 3 then Some l.OpenItems else
    (if kind == 4 then Some l.OpenPairs else
    (if kind == 5 then Some l.OpenValue else None)))))

-- A nest within others, if they are all there: one item within a value and one pair, as after `a2 82`.
abbrev pub within_others : Option Remaining → Option (List Remaining) → Option (List Remaining)
within_others (Some level) (Some levels) = Some (level ∷ levels)
within_others (Some level) None = None
within_others None levels = None

-- This many nests, each by its kind and its count. The innermost is the last of them: the kinds 0 and 1 with the counts
-- 2 and 3 are three pairs within two items.
abbrev pub levels_in : ℕ → List ℕ → List ℕ → Option (List Remaining)
levels_in zero kinds counts = Some []
levels_in (suc len) kinds counts =
    within_others (level_in (slice_index kinds len) (slice_index counts len)) (levels_in len kinds counts)

-- A checker can have this phase and these open strings with the other numbers. The nests and the levels left are at
-- most 256, and each open string has come with a byte. A body has bytes left. A title isn't whole: `19 01` may be kept,
-- and `19 01 00` may not.
pub record IsState (snapshot : Snapshot) (phase : Phase) (within : Within) : Type 0 where
  pub room : snapshot.nests + snapshot.depth ≤ MOST_LEVELS
  pub counted : open_count within ≤ snapshot.offset
  pub left : has_left phase ≡ true
  pub long : snapshot.title_len ≤ LONGEST_TITLE
  pub begun : snapshot.title_len ≤ affix_len (slice_index (take snapshot.title_len snapshot.title) 0 % 32)

-- The plain numbers are those of this spot. After `82` they are, among others, the phase 1, one nest with the kind 0
-- and the count 1, and the offset 1.
pub record Holds (snapshot : Snapshot) (spot : Spot) : Type 0 where
  pub phase : phase_in snapshot.phase snapshot.number snapshot.text ≡ Some spot.phase
  pub allowed : spelling_in snapshot.strict ≡ Some spot.allowed
  pub title : take snapshot.title_len snapshot.title ≡ spot.front
  pub within : within_in snapshot.strings snapshot.more ≡ Some spot.within
  pub depth : snapshot.depth ≡ spot.depth
  pub levels : levels_in snapshot.nests snapshot.kinds snapshot.counts ≡ Some spot.levels
  pub place : snapshot.place ≡ spot.place
  pub offset : snapshot.offset ≡ spot.offset
  pub is_state : IsState snapshot spot.phase spot.within
