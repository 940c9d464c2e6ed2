-- The number of failures of the reader in a read, by the error of the read.
use Rattle.std.specs.Prelude.{◌≡◌, ℕ, ◌+◌}
use Rattle.ciborium_ll_decoder.specs.declared.dec.Error.{Error}
use Rattle.ciborium_ll_decoder.specs.declared.dec.Error.TheVariants as e
use Rattle.cbor_skip.specs.declared.SkipError.{SkipError}
use Rattle.cbor_skip.specs.declared.SkipError.TheVariants as s

-- A read with the error `Io` counts one failure of the reader. Every other read counts none. After 2 failures, `Io`
-- makes 3, and `Syntax(0)` leaves 2.
abbrev pub CountsFailure : {E : Type 0} → Error E → ℕ → ℕ → Type 0
CountsFailure (e.Io fault) old new = new ≡ old + 1
CountsFailure error old new = new ≡ old

-- The read of an item counts failures of the reader in the same way. After 2 failures, `Read` of `Io` makes 3, and
-- `Break(0)` leaves 2.
abbrev pub CountsItemFailure : {E : Type 0} → SkipError E → ℕ → ℕ → Type 0
CountsItemFailure (s.Read error) old new = CountsFailure error old new
CountsItemFailure error old new = new ≡ old
