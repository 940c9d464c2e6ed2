-- The room that is always enough.
use Rattle.std.proofs.Common.{◌≡◌, ◌⊎◌, ◌+◌, ◌<◌, ◌≤◌, ℕ, List, [], ◌∷◌, length, ap, inl, inr, subst, arith}
use Rattle.cbor_copier.proofs.ReadLaws.{held_few, held_some}
use Rattle.cbor_checker.specs.declared.progress.Progress.{Progress as Checked}
use Rattle.cbor_checker.specs.declared.progress.Progress.TheVariants as f
use Rattle.cbor_checker.specs.Spots.{Spot}
use Rattle.cbor_checker.specs.Telling as checker
use Rattle.cbor_item_copier.specs.declared.copier.ItemCopier.{ItemCopier}
use Rattle.cbor_item_copier.specs.declared.progress.Progress.{Progress}
use Rattle.cbor_item_copier.specs.Copying.{held, item_spot, pending}
use Rattle.cbor_item_copier.specs.Reading.{IsRoom}
use Rattle.cbor_item_copier.specs.Telling.{of_checker, progress_of}

-- A checker never answers `Room`.
no_output : (checked : Checked) → IsRoom (of_checker checked) → ⊥
no_output (f.More due) room = room
no_output (f.Ended len) room = room
no_output (f.Fault fault) room = room
no_output f.TooLong room = room

-- If the answer is `Room`, some bytes are pending.
some_pending : (bytes : List ℕ) (spot : Spot) → IsRoom (progress_of bytes spot) → 0 < length bytes
some_pending [] spot room = absurd (no_output (checker.progress_of spot) room)
some_pending (byte ∷ bytes) spot room = omega arith

-- If nothing was pending, a room of eight bytes more than the piece is enough.
pub never_room : (old new : ItemCopier) (progress : Progress) (bytes room at written : ℕ)
    → progress ≡ progress_of (pending new) (item_spot new) → (pending new ≡ []) ⊎ (written ≡ room)
    → written + held new ≤ held old + at → at ≤ bytes
    → pending old ≡ [] → bytes + 8 ≤ room → IsRoom progress → ⊥
never_room old new progress bytes room at written is full grown within none fits lacks =
    let some = some_pending (pending new) (item_spot new) (subst IsRoom is lacks) in
    elim full [
      | inl given ↦ omega (arith, some, ap length given)
      | inr all ↦ omega (arith, some, all, grown, within, held_some new.copier, held_few old.copier none, fits)
    ]
