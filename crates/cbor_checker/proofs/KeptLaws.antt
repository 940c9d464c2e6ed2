-- Titles and ends change no byte of the front and no count, and leave no body due that cannot end.
use Rattle.std.proofs.Common.{◌≡◌, ℕ, zero, suc, Bool, true, List, [], ◌∷◌, refl, arith}
use Rattle.std.proofs.lemmas.Bool.Decides.{nat_tests}
use Rattle.ciborium_ll_grammar.specs.declared.hdr.Header.{Header}
use Rattle.ciborium_ll_text.specs.declared.state.State.{State}
use Rattle.ciborium_ll_text.specs.States.{may_end}
use Rattle.ciborium_ll_grammar.specs.declared.remaining.Remaining.{Remaining}
use Rattle.cbor_checker.specs.declared.phase.Phase.{Phase}
use Rattle.cbor_checker.specs.declared.phase.Phase.TheVariants as p
use Rattle.cbor_parser.specs.declared.strings.Within.{Within}
use Rattle.cbor_checker.specs.Spots.{Spot, settled, string_done, bytes_due, entered}
use Rattle.cbor_checker.specs.Steps.{text_left}

-- ---- a title and the end of an item or a string change no front and no offset

-- A body that is due has bytes left, and its text may end with them.
abbrev pub Ready : Phase → Type 0
Ready (p.Bytes zero) = ⊥
Ready (p.Text zero state) = ⊥
Ready (p.Text (suc left) state) = may_end state (suc left) ≡ true
Ready phase = Unit {0}

abbrev pub Kept : Spot → Spot → Type 0
Kept spot new = (new.front ≡ spot.front) × (new.offset ≡ spot.offset) × Ready new.phase

settled_kept : (levels : List Remaining) (d : ℕ) (spot : Spot) → Kept spot (settled d levels spot)
settled_kept [] d spot = (refl, refl, tt)
settled_kept (g ∷ gs) d spot = grind (arith, settled_kept gs)

pub string_kept : (i : Within) (spot : Spot) → Kept spot (string_done i spot)
string_kept i spot = grind (arith, settled_kept)

pub bytes_kept : (len : ℕ) (spot : Spot) → Kept spot (bytes_due len spot)
bytes_kept len spot = grind (arith, string_kept)

pub entered_kept : (i : Within) (x : Header) (spot : Spot) → Kept spot (entered i x spot)
entered_kept i x spot = grind (arith, nat_tests, settled_kept, string_kept)

pub left_kept : (b : Bool) (left : ℕ) (state : State) (spot : Spot)
    → ((text_left b left state spot).front ≡ spot.front) × ((text_left b left state spot).offset ≡ spot.offset)
left_kept b left state spot = grind (arith, string_kept)
