-- The effect of a write on a writer, by its answer. A definition speaks of bytes and of room if the writer tells them.
use Rattle.std.specs.Prelude.{◌≡◌, ℕ, ◌+◌, ◌<◌, List, length, Result, Ok, Err, IfSome}
use Rattle.std.specs.Io.KnownBytes.{Appends}
use Rattle.ciborium_ll_io.specs.declared.io.Write.{Ghosts}
use Rattle.ciborium_ll_io.specs.Transfer.{Shrinks, AppendsFront}

module _ {W F : Type 0} (sink : Ghosts W F) where
  -- All of the bytes were appended, a told room is less by their number, and no call failed. A write of `82 01` after
  -- `00` makes `00 82 01`.
  pub record WritesAll (old : W) (bytes : List ℕ) (new : W) : Type 0 where
    pub appended : Appends (sink.written old) (sink.written new) bytes
    pub room : Shrinks (sink.room old) (sink.room new) (length bytes)
    pub failures : sink.failures new ≡ sink.failures old

  -- The writer failed once, with a beginning of the bytes appended. A told room was too small: it had 1 byte, for
  -- example, for `82 01`.
  pub record WritesFront (old : W) (bytes : List ℕ) (new : W) : Type 0 where
    pub front : AppendsFront (sink.written old) (sink.written new) (sink.room old) (sink.room new) bytes
    pub full : IfSome (sink.room old) (λ room. room < length bytes)
    pub failures : sink.failures new ≡ sink.failures old + 1

  -- The effect of a write of these bytes, by its answer: all of them were appended, or a beginning. An error of a write
  -- of `82 01` after `00` may leave `00 82`.
  abbrev pub WritesBytes : {T : Type 0} → W → Result T F → List ℕ → W → Type 0
  WritesBytes old (Ok done) bytes new = WritesAll old bytes new
  WritesBytes old (Err fault) bytes new = WritesFront old bytes new
