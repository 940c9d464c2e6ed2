-- The premises of the calls that promise success: one of the side that is read, and one of the side that is written.
use Rattle.std.specs.Prelude.{◌≡◌, ℕ, ◌+◌, ◌<◌, List, length, Some, None}
use Rattle.ciborium_ll_io.specs.declared.io.Read.{Ghosts as Reader}
use Rattle.ciborium_ll_io.specs.declared.io.Write.{Ghosts as Writer}
use Rattle.ciborium_ll_grammar.specs.declared.spelling.Spelling.TheVariants.{Shortest}
use Rattle.ciborium_ll_decoder.specs.declared.dec.Decoder.{Decoder}
use Rattle.ciborium_ll_decoder.specs.Decoding.{offset_limit, view, IsSteady, spelling_of}

-- The most bytes that a title has after its first byte: 8, as `1b` announces (RFC 7049, 2.1).
abbrev pub longest_affix : ℕ
longest_affix = 8

module _ {R E : Type 0} (source : Reader R E) where
  -- The reader gives the bytes that it tells. The offset fits the bytes that are due, with the longest affix and with a
  -- buffer of `room` bytes to spare. No header waits on a strict decoder. With `01` due and a buffer of 64 bytes, the
  -- offset 0 fits.
  pub record CanRead (room : ℕ) (decoder : Decoder R) (due : List ℕ) : Type 0 where
    pub none_waits : spelling_of decoder ≡ Shortest → decoder.waiting ≡ None
    pub steady : IsSteady source decoder
    pub told : view source decoder ≡ Some due
    pub fits-title : decoder.offset + length due + longest_affix < offset_limit
    pub fits-chunk : decoder.offset + length due + room < offset_limit

module _ {W F : Type 0} (sink : Writer W F) where
  -- The writer tells the bytes that were written, and its room, which is enough. If 2 bytes are to come, a room of 3 is
  -- enough.
  pub record CanWrite (Suffices : ℕ → Type 0) (writer : W) (written : List ℕ) : Type 0 where
    pub told : sink.written writer ≡ Some written
    pub room : ℕ
    pub room-told : sink.room writer ≡ Some room
    pub enough : Suffices room
