-- The answers of a checker by its spot.
use Rattle.std.specs.Prelude.{◌≡◌, ℕ, zero, ◌-◌, ◌%◌, Bool, true, false, List, [], ◌∷◌, ◌==◌, if◌then◌else◌, length}
use Rattle.ciborium_ll_grammar.specs.Title.{affix_len}
use Rattle.cbor_checker.specs.declared.phase.Phase.{Phase}
use Rattle.cbor_checker.specs.declared.phase.Phase.TheVariants as p
use Rattle.cbor_checker.specs.declared.progress.Progress.{Progress}
use Rattle.cbor_checker.specs.declared.progress.Progress.TheVariants as r
use Rattle.cbor_checker.specs.declared.progress.End.{End}
use Rattle.cbor_checker.specs.declared.progress.End.TheVariants as e
use Rattle.cbor_checker.specs.Reading.{IsMore}
use Rattle.cbor_checker.specs.Spots.{Spot}

-- If a body is due, it has bytes left: so it is with `Bytes(2)` after `42` and with `Title`, and not with `Bytes(0)`.
abbrev pub has_left : Phase → Bool
has_left (p.Bytes zero) = false
has_left (p.Text zero state) = false
has_left phase = true

-- More bytes may come, as after `42`, and not after `01` or `1c`.
abbrev pub is_due : Phase → Bool
is_due p.Ended = false
is_due (p.Faulted fault) = false
is_due phase = true

-- How many bytes a title lacks at least: `19` lacks two, and `19 01` lacks one.
abbrev pub title_due : List ℕ → ℕ
title_due [] = 1
title_due (byte ∷ bytes) = affix_len (byte % 32) - length bytes

-- The answer, by what is due. It says how many bytes are missing: two after `19`.
abbrev pub progress_in : Phase → Spot → Progress
progress_in p.Title spot = r.More (title_due spot.front)
progress_in (p.Bytes left) spot = r.More left
progress_in (p.Text left state) spot = r.More left
progress_in p.Ended spot = r.Ended spot.offset
progress_in (p.Faulted fault) spot = r.Fault fault

-- The answer at a spot: `More(2)` after `19`, and `Ended(1)` after `01`.
abbrev pub progress_of : Spot → Progress
progress_of spot = progress_in spot.phase spot

-- The answer if no more bytes come, by the last answer: `Short(2)` for the `More(2)` of `19`, and `Between` for
-- `Ended(1)`.
abbrev pub end_in : Progress → End
end_in (r.More due) = e.Short due
end_in (r.Ended len) = e.Between
end_in (r.Fault fault) = e.Fault fault
end_in r.TooLong = e.Between

-- The answer at a spot if no more bytes come: `Short(2)` after `19`. Without any byte, they end between items.
abbrev pub end_of : Spot → End
end_of spot = if spot.offset == 0 then e.Between else end_in (progress_of spot)

-- The answer is that of the spot. With `TooLong`, more bytes are due there. After `19`, `More(2)` and `TooLong` are
-- answers, and `More(1)` is none.
abbrev pub IsAnswer : Progress → Spot → Type 0
IsAnswer r.TooLong spot = IsMore (progress_of spot)
IsAnswer progress spot = progress ≡ progress_of spot

-- The item is whole: the phase is `Ended`, as after `f6`, and not `Bytes(2)`.
abbrev pub EndedIn : Phase → Type 0
EndedIn p.Ended = Unit {0}
EndedIn phase = ⊥

-- The item is whole at the spot, as after `01`.
abbrev pub HasEnded : Spot → Type 0
HasEnded spot = EndedIn spot.phase

-- No item goes on from here: the phase is a fault, as `Syntax(0)` after `1c`, and not `Ended`.
abbrev pub FaultIn : Phase → Type 0
FaultIn (p.Faulted fault) = Unit {0}
FaultIn phase = ⊥

-- No item goes on from the spot, as after `ff`.
abbrev pub IsAtFault : Spot → Type 0
IsAtFault spot = FaultIn spot.phase
