-- The effect of a write on its decoder if the writer does not fail and each item has JSON.
use Rattle.std.specs.Prelude.{◌≡◌, ℕ, Result, Ok, Err}
use Rattle.ciborium_ll.specs.Types.Read.{Ghosts}
use Rattle.ciborium_ll.specs.Types.Decoder.{Decoder}
use Rattle.ciborium_ll.specs.Types.Error.{Error}
use Rattle.ciborium_ll.specs.Types.RecodeError.{RecodeError}
use Rattle.ciborium_ll.specs.Types.RecodeError.TheVariants as r
use Rattle.ciborium_ll.specs.Decoding.{MovesOn, failures_of}
use Rattle.cbor_skip.specs.declared.SkipError.{SkipError}
use Rattle.cbor_skip.specs.declared.SkipError.TheVariants as s
use Rattle.cbor_skip.specs.Failures.{CountsItemFailure}
use Rattle.cbor_skip.specs.Skipping.{SkipsItem}
use Rattle.cbor_diag.specs.declared.strings.TheConstants.{BUFFER_SIZE}
use Rattle.cbor_json.specs.declared.JsonError.{JsonError}
use Rattle.cbor_json.specs.declared.JsonError.TheVariants as j

module _ {E F : Type 0} where
  -- The error is that of the writer, and not that of the read, as a break in `81 ff` gives.
  abbrev pub IsWriting : JsonError E F → Type 0
  IsWriting (j.Read error) = ⊥
  IsWriting (j.NoJson place) = ⊥
  IsWriting (j.Write fault) = Unit {0}

  -- The answer of a write, as the answer of the whole call. The answer `Err(7)` gives `Err(Write(7))`.
  abbrev pub said_of : {T : Type 0} → Result T F → Result T (JsonError E F)
  said_of (Ok done) = Ok done
  said_of (Err fault) = Err (j.Write fault)

  -- The relation holds for the read, by its answer. If the writer failed or an item has no JSON, the read has no
  -- answer. For `Err(Read(error))`, as a break in `81 ff` gives, it holds for `Err(error)`.
  abbrev pub OnReading : (Result (Unit {0}) (SkipError E) → Type 0) → Result (Unit {0}) (JsonError E F) → Type 0
  OnReading Holds (Ok done) = Holds (Ok (tt {0}))
  OnReading Holds (Err (j.Read error)) = Holds (Err error)
  OnReading Holds (Err (j.NoJson place)) = Unit {0}
  OnReading Holds (Err (j.Write fault)) = Unit {0}

  -- The relation holds for the read of a string, which fails as the decoder does. It can fail for the text `61 ff`, but
  -- never with a break.
  abbrev pub OnString : (Result (Unit {0}) (Error E) → Type 0) → Result (Unit {0}) (JsonError E F) → Type 0
  OnString Holds (Ok done) = Holds (Ok (tt {0}))
  OnString Holds (Err (j.Read (s.Read error))) = Holds (Err error)
  OnString Holds (Err (j.Read (s.Break at))) = ⊥
  OnString Holds (Err (j.Read (s.Deep at))) = ⊥
  OnString Holds (Err (j.NoJson place)) = ⊥
  OnString Holds (Err (j.Write fault)) = Unit {0}

  -- The relation holds for the read of a string, by the answer of a copy of its bodies. For `Err(Read(error))`, as
  -- `61 ff` gives, it holds for `Err(error)`.
  abbrev pub OnCopy : (Result (Unit {0}) (Error E) → Type 0) → Result (Unit {0}) (RecodeError E F) → Type 0
  OnCopy Holds (Ok done) = Holds (Ok (tt {0}))
  OnCopy Holds (Err (r.Read error)) = Holds (Err error)
  OnCopy Holds (Err (r.Write fault)) = Unit {0}

  -- How often the reader failed, by the answer: once if the error of the read says so, and otherwise never. On `Ok` for
  -- `82 01 02` it did not fail, and for a cut `19` it failed once.
  abbrev pub CountsWritten : Result (Unit {0}) (JsonError E F) → ℕ → ℕ → Type 0
  CountsWritten (Ok done) old new = new ≡ old
  CountsWritten (Err (j.Read error)) old new = CountsItemFailure error old new
  CountsWritten (Err (j.NoJson place)) old new = new ≡ old
  CountsWritten (Err (j.Write fault)) old new = new ≡ old

-- The reads of `write_json` if the writer does not fail and each item has JSON, and the facts that it keeps for each
-- answer. On `Ok` for `82 01 02` it read all 3 bytes.
pub record ReadsWritten {R E F : Type 0} (source : Ghosts R E) (depth : ℕ) (old : Decoder R)
    (result : Result (Unit {0}) (JsonError E F)) (new : Decoder R) : Type 0 where
  pub reads : OnReading (λ answer. SkipsItem source depth BUFFER_SIZE old answer new) result
  pub failures : CountsWritten result (failures_of source old) (failures_of source new)
  pub moves_on : MovesOn source old new
