-- The answers of a copier by its spot.
use Rattle.std.specs.Prelude.{◌≡◌, ℕ, Bool, true, false, List, [], ◌∷◌}
use Rattle.cbor_copier.specs.declared.phase.Phase.{Phase}
use Rattle.cbor_copier.specs.declared.phase.Phase.TheVariants as p
use Rattle.cbor_copier.specs.declared.progress.Progress.{Progress}
use Rattle.cbor_copier.specs.declared.progress.Progress.TheVariants as r
use Rattle.cbor_copier.specs.declared.progress.End.{End}
use Rattle.cbor_copier.specs.declared.progress.End.TheVariants as e
use Rattle.cbor_copier.specs.Spots.{Spot}

-- More bytes may come: for one element, after `42`, and not after `01` or `1c`.
abbrev pub is_due : Phase → Bool
is_due p.Ended = false
is_due (p.Faulted place) = false
is_due phase = true

-- The answer if nothing is pending, by what is due: `More` for two bytes of a body, and `Syntax(3)` for a fault at 3.
abbrev pub progress_in : Phase → Progress
progress_in p.Ended = r.Ended
progress_in (p.Faulted place) = r.Syntax place
progress_in phase = r.More

-- The answer, by what is pending and what is due. If `01` is pending, it is `Room`, even if the copy has ended.
abbrev pub progress_of : List ℕ → Phase → Progress
progress_of [] phase = progress_in phase
progress_of (byte ∷ bytes) phase = r.Room

-- The answer if no more bytes come and nothing is pending, by what is due: `Short` if two bytes are, as after `42`.
abbrev pub end_in : Phase → End
end_in p.Ended = e.Ended
end_in (p.Faulted place) = e.Syntax place
end_in phase = e.Short

-- The answer if no more bytes come, by what is pending and what is due. With `ff` pending, it is `Room`.
abbrev pub end_of : List ℕ → Phase → End
end_of [] phase = end_in phase
end_of (byte ∷ bytes) phase = e.Room

-- The answer is that of the state. With `TooLong`, more bytes are due. If nothing is pending after `42`, `More` and
-- `TooLong` are answers, and `Ended` is none.
abbrev pub IsAnswer : Progress → List ℕ → Phase → Type 0
IsAnswer r.TooLong pending phase = progress_of pending phase ≡ r.More
IsAnswer progress pending phase = progress ≡ progress_of pending phase

-- That many elements came: the phase is `Ended`, as after `f6`, and not `Bytes(2)`.
abbrev pub EndedIn : Phase → Type 0
EndedIn p.Ended = Unit {0}
EndedIn phase = ⊥

-- The elements have come at the spot, as one after `01`.
abbrev pub HasEnded : Spot → Type 0
HasEnded spot = EndedIn spot.phase

-- No list of that many elements begins so: the phase is a fault, as at 0 after `61 ff`, and not `Ended`.
abbrev pub FaultIn : Phase → Type 0
FaultIn (p.Faulted place) = Unit {0}
FaultIn phase = ⊥

-- No list of that many elements goes on from the spot, as after `1c`.
abbrev pub IsAtFault : Spot → Type 0
IsAtFault spot = FaultIn spot.phase
