-- The effect of an encoder's calls on its writer, by their answers. This file re-exports the effect of a write.
use Rattle.std.specs.Prelude.{◌≡◌, ℕ, ◌<◌, ◌⊎◌, List, length, Option, Result}
use Rattle.ciborium_ll_io.specs.declared.io.Write.{Ghosts}
use Rattle.ciborium_ll_grammar.specs.declared.hdr.Header.{Header}
use Rattle.ciborium_ll_encoder.specs.declared.enc.Encoder.{Encoder}
pub use Rattle.ciborium_ll_io.specs.Writes.{WritesAll, WritesFront, WritesBytes}
use Rattle.ciborium_ll_grammar.specs.Title.{IsTitle, shortest_title}
use Rattle.ciborium_ll_grammar.specs.Strings.{Kind, Text}
use Rattle.ciborium_ll_grammar.specs.Elements.{Mark, spelling, pieces}
use Rattle.ciborium_ll_grammar.specs.Values.{value_limit, ArePieces, IsWritten, HasFewestSegments}

-- The writer of the encoder: for example, a `Discard` that took `82 01`.
abbrev pub writer_of : {W : Type 0} → Encoder W → W
writer_of encoder = encoder.writer

module _ {W F : Type 0} (sink : Ghosts W F) where
  -- A title was written, or a beginning of it, by the answer: of `19 01 00` an error may leave `19`. The writer stays
  -- on its slice.
  pub record WritesTitle {T : Type 0} (bytes : List ℕ) (old : W) (result : Result T F) (new : W) : Type 0 where
    pub title : WritesBytes sink old result bytes new
    pub target : sink.target new ≡ sink.target old

  -- The effect of `push`: the header's shortest title is written. Every other title of the header is longer (RFC 7049,
  -- 3.9). For the number 24 it is `18 18`, and `19 00 18` is longer.
  pub record EncoderPush {T : Type 0} (header : Header) (old : W) (result : Result T F) (new : W) : Type 0 where
    pub title : WritesBytes sink old result (shortest_title header) new
    pub shortest : (other : List ℕ) → IsTitle other header
        → (other ≡ shortest_title header) ⊎ (length (shortest_title header) < length other)
    pub target : sink.target new ≡ sink.target old

  -- The pieces of a value that is longer than the limit were written, or a beginning of them, by the answer. With the
  -- limit 2 the bytes `01 02 03` become `42 01 02 41 03`.
  pub record WritesPieces {T : Type 0} (kind : Kind) (limit : ℕ) (value : List ℕ) (old : W) (result : Result T F)
      (new : W) : Type 0 where
    pub members : List (List ℕ)
    pub are_pieces : ArePieces kind limit value members
    pub bytes : WritesBytes sink old result (spelling (pieces kind members)) new

  -- The spelling of a value was written, or a beginning of it, by the answer. Its segments have at most `value_limit`
  -- bytes: the requested number, but at least 1, and at least 4 for a text. With the limit 2 the bytes `01 02 03`
  -- become `5f 42 01 02 41 03 ff`.
  pub record WritesValue {T : Type 0} (kind : Kind) (segment : Option ℕ) (value : List ℕ) (old : W)
      (result : Result T F) (new : W) : Type 0 where
    pub marks : List Mark
    pub written : IsWritten kind (value_limit kind segment value) value marks
    pub bytes : WritesBytes sink old result (spelling marks) new

  -- The effect of `bytes` and `text`. The writer stays on its slice. Without a limit, the text `61 62` is written as
  -- `62 61 62`.
  pub record WritesString {T : Type 0} (kind : Kind) (segment : Option ℕ) (bytes : List ℕ) (old : W)
      (result : Result T F) (new : W) : Type 0 where
    pub value : WritesValue kind segment bytes old result new
    pub target : sink.target new ≡ sink.target old

  -- A text was written whole, in as few segments as the limit allows. With the limit 4 the text `61 62 63 e2 82 ac`
  -- needs two segments, of 3 bytes each.
  pub record WritesFewest (limit : ℕ) (text : List ℕ) (old new : W) : Type 0 where
    pub marks : List Mark
    pub written : IsWritten Text limit text marks
    pub fewest : HasFewestSegments limit text marks
    pub bytes : WritesAll sink old (spelling marks) new
