-- The place of a fault of an item is within the bytes that came.
use Rattle.std.proofs.Common.{◌≡◌, ℕ, zero, suc, ◌+◌, ◌≤◌, Bool, List, [], ◌∷◌, length, subst, arith}
use Rattle.std.proofs.Common.{refl, sym}
use Rattle.std.proofs.lemmas.Bool.Decides.{nat_tests}
use Rattle.ciborium_ll_grammar.specs.declared.spelling.Spelling.{Spelling}
use Rattle.ciborium_ll_grammar.specs.declared.hdr.Header.{Header}
use Rattle.ciborium_ll_grammar.specs.declared.hdr.Header.TheVariants as h
use Rattle.ciborium_ll_text.specs.declared.state.State.{State}
use Rattle.ciborium_ll_text.specs.States.{after_byte, may_end}
use Rattle.cbor_checker.specs.declared.phase.Fault.{Fault}
use Rattle.cbor_checker.specs.declared.phase.Phase.{Phase}
use Rattle.cbor_checker.specs.declared.phase.Phase.TheVariants as p
use Rattle.cbor_parser.specs.declared.strings.Within.{Within}
use Rattle.cbor_checker.specs.declared.progress.Progress.TheVariants as r
use Rattle.cbor_checker.specs.Levels.{contents}
use Rattle.cbor_checker.specs.declared.checker.Checker.{Checker}
use Rattle.cbor_checker.specs.Checking.{Answers, HasRead, spot_of}
use Rattle.cbor_checker.specs.Spots.{Spot, settled, string_done, bytes_due, entered}
use Rattle.cbor_checker.specs.Steps.{IsFed, StepIn, TitleStep, counted, fresh, more, text_left, titled, with_byte}
use Rattle.cbor_checker.specs.Steps.{cut, early, whole, none}
use Rattle.cbor_checker.specs.Telling.{progress_in, progress_of}
use Rattle.cbor_checker.proofs.KeptLaws.{entered_kept}
use Rattle.cbor_checker.proofs.TellLaws.{fed_counts}
use Rattle.tool_files.specs.Recodes.{fault_place}

abbrev TypeOf : {A : Type 0} → A → Type 0
TypeOf {A = A} a = A

-- The rest of a nest. No path outside of its crate names the type.
abbrev Level : Type 0
Level = TypeOf (contents h.Break)

-- The place of a fault is at most this number.
abbrev FaultIn : Phase → ℕ → Type 0
FaultIn (p.Faulted fault) most = fault_place fault ≤ most
FaultIn phase most = Unit {0}

-- No place of the spot is past its offset.
abbrev Placed : Spot → Type 0
Placed spot = (spot.place ≤ spot.offset) × FaultIn spot.phase spot.offset

settled_placed : (levels : List Level) (d : ℕ) (spot : Spot) → spot.place ≤ spot.offset
    → Placed (settled d levels spot)
settled_placed [] d spot within = (within, tt)
settled_placed (g ∷ gs) d spot within = grind (arith, settled_placed gs, within)

string_placed : (i : Within) (spot : Spot) → spot.place ≤ spot.offset → Placed (string_done i spot)
string_placed i spot within = grind (arith, settled_placed, within)

bytes_placed : (len : ℕ) (spot : Spot) → spot.place ≤ spot.offset → Placed (bytes_due len spot)
bytes_placed len spot within = grind (arith, string_placed, within)

entered_placed : (i : Within) (x : Header) (spot : Spot) → spot.place ≤ spot.offset → Placed (entered i x spot)
entered_placed i x spot within = grind (arith, nat_tests, settled_placed, string_placed, within)

left_placed : (b : Bool) (left : ℕ) (state : State) (spot : Spot) → spot.place ≤ spot.offset
    → Placed (text_left b left state spot)
left_placed b left state spot within = grind (arith, string_placed, within)

title_placed : (spot new : Spot) → spot.place ≤ spot.offset → FaultIn spot.phase spot.offset → TitleStep spot new
    → Placed new
title_placed spot new within fault (cut a b c) = (within, fault)
title_placed spot new within fault (early named a some all) =
    let placed = entered_placed spot.within some.1 (record spot { front = [] }) within in
    let kept = entered_kept spot.within some.1 (record spot { front = [] }) in (
      within,
      subst (λ (z : Phase). FaultIn z spot.offset) (all some.0 some.1 some.2)
          (subst (λ (n : ℕ). FaultIn (titled some.1 spot).phase n) kept.1 placed.1),
    )
title_placed spot new within fault (whole header title taken) =
    entered_placed spot.within header (record spot { front = [] }) within
title_placed spot new within fault (none never) = (within, within)

fault_later : (phase : Phase) (most : ℕ) → FaultIn phase most → FaultIn phase (most + 1)
fault_later (p.Faulted fault) most within = omega (arith, within)
fault_later phase most within = tt

with_byte_placed : (byte : ℕ) (front : List ℕ) (spot : Spot) → front ≡ spot.front → spot.place ≤ spot.offset
    → (with_byte byte spot).place ≤ spot.offset + 1
with_byte_placed byte [] spot is within = rw (← is) (omega arith)
with_byte_placed byte (b ∷ front) spot is within = rw (← is) (omega (arith, within))

step_placed : (phase : Phase) (spot new : Spot) (byte : ℕ) → Placed spot → StepIn phase spot byte new → Placed new
step_placed p.Title spot new byte placed step =
    title_placed (with_byte byte spot) new (with_byte_placed byte spot.front spot refl placed.0)
    (fault_later spot.phase spot.offset placed.1) step
step_placed (p.Bytes zero) spot new byte placed step = absurd step
step_placed (p.Bytes (suc left)) spot new byte placed step =
    subst Placed (sym step) (bytes_placed left (counted spot) (omega (arith, placed.0)))
step_placed (p.Text zero state) spot new byte placed step = absurd step
step_placed (p.Text (suc left) state) spot new byte placed step =
    subst Placed (sym step)
    (left_placed (may_end (after_byte state byte) left) left (after_byte state byte) (counted spot)
    (omega (arith, placed.0)))
step_placed p.Ended spot new byte placed step = absurd step
step_placed (p.Faulted fault) spot new byte placed step = absurd step

fed_placed : (s : Spelling) (d : ℕ) (fed : List ℕ) (spot : Spot) → IsFed s d fed spot → Placed spot
fed_placed s d fed spot fresh = (omega arith, tt)
fed_placed s d fed spot (more {spot = before} byte below is step) =
    step_placed before.phase before spot byte (fed_placed s d _ before is) step

fault_is : (phase : Phase) (spot : Spot) (fault : Fault) → progress_in phase spot ≡ r.Fault fault
    → phase ≡ p.Faulted fault
fault_is (p.Faulted found) spot fault is = cc
fault_is p.Title spot fault is = absurd cc
fault_is (p.Bytes left) spot fault is = absurd cc
fault_is (p.Text left state) spot fault is = absurd cc
fault_is p.Ended spot fault is = absurd cc

place_within : (s : Spelling) (d : ℕ) (fed : List ℕ) (spot : Spot) (fault : Fault) → IsFed s d fed spot
    → progress_of spot ≡ r.Fault fault → fault_place fault ≤ length fed
place_within s d fed spot fault is names =
    let placed = subst (λ (z : Phase). FaultIn z spot.offset) (fault_is spot.phase spot fault names)
    (fed_placed s d fed spot is).1 in
    omega (arith, placed, fed_counts s d fed spot is)

-- A checker names a place that is at most the number of the bytes that came.
pub place_read : (s : Spelling) (d : ℕ) (read : List ℕ) (checker : Checker) (fault : Fault) → HasRead s d read checker
    → Answers checker (r.Fault fault) → fault_place fault ≤ length read
unfolding HasRead Answers
place_read s d read checker fault has_read answers =
    place_within s d read (spot_of checker) fault has_read (sym answers)
