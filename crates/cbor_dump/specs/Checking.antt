-- A dump as a check: the bytes that `dump` consumes, and the place and cause of its stop.
use Rattle.std.specs.Prelude.{◌≡◌, ℕ, List, Result, Ok, Err}
use Rattle.ciborium_ll.specs.Types.Read.{Ghosts}
use Rattle.ciborium_ll.specs.Types.Decoder.{Decoder}
use Rattle.cbor_dump.specs.declared.sequence.Sequence.{Sequence}
use Rattle.cbor_dump.specs.declared.sequence.Stopped.{Stopped}
use Rattle.cbor_dump.specs.declared.dump.DumpError.{DumpError}
use Rattle.cbor_dump.specs.declared.dump.DumpError.TheVariants as d
use Rattle.cbor_dump.specs.Sequences.{ChecksItems, ChecksTold}
use Rattle.cbor_dump.specs.Takings.{ThroughSomeRoom}

-- A dump answers as a check that gives this answer: with the same end, or the same error. If a check of `01 ff` stops
-- with `Break(1)`, the dump does too.
abbrev pub AnswersAs : {E W : Type 0} → Result (Sequence E) (Stopped E) → Result E (DumpError E W) → Type 0
AnswersAs (Ok sequence) (Ok fault) = sequence.«end» ≡ fault
AnswersAs (Err stopped) (Err (d.Item error)) = stopped.error ≡ error
AnswersAs checked result = ⊥

module _ {R E W : Type 0} (source : Ghosts R E) where
  -- A check through a buffer of some room, at most a row's 16 bytes, would do what the dump did, and answers the same.
  -- For `01 ff` it answers with `Break` at 1.
  pub record ReadsAsCheck (depth : ℕ) (old : Decoder R) (result : Result E (DumpError E W)) (new : Decoder R)
      : Type 0 where
    pub checked : Result (Sequence E) (Stopped E)
    pub answers : AnswersAs checked result
    pub checks : ThroughSomeRoom (λ room. ChecksItems source depth room old checked new)

  -- A dump of bytes that are told does what a check does, and answers the same. For `01 ff` both answer with the error
  -- `Break` at 1.
  pub record AnswersTold (depth : ℕ) (due : List ℕ) (old : Decoder R) (result : Result E (DumpError E W))
      (new : Decoder R) : Type 0 where
    pub checked : Result (Sequence E) (Stopped E)
    pub answers : AnswersAs checked result
    pub told : ChecksTold source depth due old checked new
