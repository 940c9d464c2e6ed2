-- The answer of a copier of an item if no more bytes come, and the answer that there is no room.
use Rattle.std.proofs.Common.{◌≡◌, ◌≢◌, ◌↔◌, ℕ, Bool, true, false, List, [], ◌∷◌, refl, sym, subst, cond, ◌==◌}
use Rattle.cbor_checker.specs.declared.phase.Fault.{Fault}
use Rattle.cbor_checker.specs.declared.progress.End.TheVariants as g
use Rattle.cbor_checker.specs.declared.progress.Progress.{Progress as Checked}
use Rattle.cbor_checker.specs.declared.progress.Progress.TheVariants as f
use Rattle.cbor_checker.specs.Spots.{Spot}
use Rattle.cbor_checker.specs.Telling as checker
use Rattle.cbor_item_copier.specs.declared.copier.ItemCopier.{ItemCopier}
use Rattle.cbor_item_copier.specs.declared.progress.End.TheVariants as e
use Rattle.cbor_item_copier.specs.declared.progress.Progress.{Progress}
use Rattle.cbor_item_copier.specs.declared.progress.Progress.TheVariants as r
use Rattle.cbor_item_copier.specs.Copying.{Answers, AnswersEnd, item_spot, pending}
use Rattle.cbor_item_copier.specs.Reading.{IsRoom}
use Rattle.cbor_item_copier.specs.Telling.{end_of, of_checker, of_end, progress_of}

-- ---- the end of the bytes

short_in : (b : Bool) (checked : Checked) (due : ℕ) → e.Short due ≡ of_end (cond b g.Between (checker.end_in checked))
    → r.More due ≡ of_checker checked
short_in true checked due is = absurd cc
short_in false (f.More number) due is = cc
short_in false (f.Ended len) due is = absurd cc
short_in false (f.Fault fault) due is = absurd cc
short_in false f.TooLong due is = absurd cc

short_by : (bytes : List ℕ) (spot : Spot) (due : ℕ) → e.Short due ≡ end_of bytes spot
    → r.More due ≡ progress_of bytes spot
short_by [] spot due is = short_in (spot.offset == 0) (checker.progress_of spot) due is
short_by (b ∷ bytes) spot due is = absurd cc

fault_in : (b : Bool) (checked : Checked) (fault : Fault)
    → e.Fault fault ≡ of_end (cond b g.Between (checker.end_in checked)) → r.Fault fault ≡ of_checker checked
fault_in true checked fault is = absurd cc
fault_in false (f.More number) fault is = absurd cc
fault_in false (f.Ended len) fault is = absurd cc
fault_in false (f.Fault found) fault is = cc
fault_in false f.TooLong fault is = absurd cc

fault_by : (bytes : List ℕ) (spot : Spot) (fault : Fault) → e.Fault fault ≡ end_of bytes spot
    → r.Fault fault ≡ progress_of bytes spot
fault_by [] spot fault is = fault_in (spot.offset == 0) (checker.progress_of spot) fault is
fault_by (b ∷ bytes) spot fault is = absurd cc

room_in : (b : Bool) (checked : Checked) → e.Room ≡ of_end (cond b g.Between (checker.end_in checked))
    → r.Room ≡ of_checker checked
room_in true checked is = absurd cc
room_in false (f.More number) is = absurd cc
room_in false (f.Ended len) is = absurd cc
room_in false (f.Fault fault) is = absurd cc
room_in false f.TooLong is = absurd cc

room_by : (bytes : List ℕ) (spot : Spot) → e.Room ≡ end_of bytes spot → r.Room ≡ progress_of bytes spot
room_by [] spot is = room_in (spot.offset == 0) (checker.progress_of spot) is
room_by (b ∷ bytes) spot is = refl

pub short_answers : (copier : ItemCopier) (due : ℕ) → AnswersEnd copier (e.Short due) → Answers copier (r.More due)
unfolding Answers AnswersEnd
short_answers copier due is = short_by (pending copier) (item_spot copier) due is

pub fault_answers : (copier : ItemCopier) (fault : Fault) → AnswersEnd copier (e.Fault fault)
    → Answers copier (r.Fault fault)
unfolding Answers AnswersEnd
fault_answers copier fault is = fault_by (pending copier) (item_spot copier) fault is

pub room_end_answers : (copier : ItemCopier) → AnswersEnd copier e.Room → Answers copier r.Room
unfolding Answers AnswersEnd
room_end_answers copier is = room_by (pending copier) (item_spot copier) is

-- ---- no room

no_room : (checked : Checked) → IsRoom (of_checker checked) → ⊥
no_room (f.More due) is = is
no_room (f.Ended len) is = is
no_room (f.Fault fault) is = is
no_room f.TooLong is = is

room_at : (bytes : List ℕ) (spot : Spot) → IsRoom (progress_of bytes spot) ↔ (bytes ≢ [])
room_at [] spot = (λ is. absurd (no_room (checker.progress_of spot) is), λ some. absurd (some refl))
room_at (b ∷ bytes) spot = (λ is none. cc, λ some. tt)

pub room_answers : (copier : ItemCopier) (progress : Progress) → Answers copier progress
    → IsRoom progress ↔ (pending copier ≢ [])
unfolding Answers
room_answers copier progress is =
    subst (λ (z : Progress). IsRoom z ↔ (pending copier ≢ [])) (sym is) (room_at (pending copier) (item_spot copier))
