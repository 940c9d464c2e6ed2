-- The answers of a copier of an item by the state of its checker.
use Rattle.std.specs.Prelude.{◌≡◌, ℕ, List, [], ◌∷◌}
use Rattle.cbor_checker.specs.declared.progress.Progress.TheVariants as f
use Rattle.cbor_checker.specs.declared.progress.End.TheVariants as g
use Rattle.cbor_checker.specs.Telling as checker
use Rattle.cbor_checker.specs.declared.progress.Progress.{Progress as Checked}
use Rattle.cbor_checker.specs.declared.progress.End.{End as CheckedEnd}
use Rattle.cbor_checker.specs.Spots.{Spot}
use Rattle.cbor_item_copier.specs.declared.progress.Progress.{Progress}
use Rattle.cbor_item_copier.specs.declared.progress.Progress.TheVariants as r
use Rattle.cbor_item_copier.specs.declared.progress.End.{End}
use Rattle.cbor_item_copier.specs.declared.progress.End.TheVariants as e

-- The checker's answer, as an answer of the copier: `More 1` for `More 1`.
abbrev pub of_checker : Checked → Progress
of_checker (f.More due) = r.More due
of_checker (f.Ended len) = r.Ended len
of_checker (f.Fault fault) = r.Fault fault
of_checker f.TooLong = r.TooLong

-- The answer, by the pending bytes and the state of the checker. After `82 01` it is `More 1`, or `Room` if bytes are
-- pending.
abbrev pub progress_of : List ℕ → Spot → Progress
progress_of [] spot = of_checker (checker.progress_of spot)
progress_of (byte ∷ bytes) spot = r.Room

-- The checker's answer to an end of the bytes, as an answer of the copier: `Short 1` for `Short 1`.
abbrev pub of_end : CheckedEnd → End
of_end g.Between = e.Between
of_end (g.Short due) = e.Short due
of_end (g.Fault fault) = e.Fault fault

-- The answer to an end of the bytes, by the pending bytes and the state of the checker. After `82 01` it is `Short 1`,
-- or `Room` if bytes are pending.
abbrev pub end_of : List ℕ → Spot → End
end_of [] spot = of_end (checker.end_of spot)
end_of (byte ∷ bytes) spot = e.Room

-- The answer is that of `progress_of`, or it is `TooLong` and nothing is pending. After `82 01` with nothing pending it
-- is `More 1` or `TooLong`.
abbrev pub IsAnswer : Progress → List ℕ → Spot → Type 0
IsAnswer r.TooLong bytes spot = bytes ≡ []
IsAnswer progress bytes spot = progress ≡ progress_of bytes spot
