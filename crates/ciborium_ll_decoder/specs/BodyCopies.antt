-- The copy of a body from a decoder to a writer, over any reader and writer. Each relation leads from the two sides of
-- the copy before a call to the two sides after it.
use Rattle.std.specs.Prelude.{◌≡◌, ℕ, ◌+◌, ◌-◌, ◌<◌, ◌≤◌, min, List, [], ◌++◌, length, Result, Ok, Err}
use Rattle.ciborium_ll_io.specs.declared.io.Read.{Ghosts as Reader}
use Rattle.ciborium_ll_io.specs.declared.io.Write.{Ghosts as Writer}
use Rattle.ciborium_ll_io.specs.Writes.{WritesAll, WritesFront}
use Rattle.ciborium_ll_grammar.specs.Strings.{Kind, IsWritable, most_kept}
use Rattle.ciborium_ll_text.specs.Text.{IsStuck}
use Rattle.ciborium_ll_decoder.specs.declared.copy.RecodeError.{RecodeError}
use Rattle.ciborium_ll_decoder.specs.declared.copy.RecodeError.TheVariants as r
use Rattle.ciborium_ll_decoder.specs.declared.dec.Decoder.{Decoder}
use Rattle.ciborium_ll_decoder.specs.declared.dec.Error.{Error}
use Rattle.ciborium_ll_decoder.specs.declared.seg.Body.{Body}
use Rattle.ciborium_ll_decoder.specs.declared.seg.Parser.{Ghosts as Parser}
use Rattle.ciborium_ll_decoder.specs.declared.seg.Segments.{Segments}
use Rattle.ciborium_ll_decoder.specs.Decoding.{MovesOn, ReadsPast}
use Rattle.ciborium_ll_decoder.specs.Finishing.{ReadsRest, StopsRest}
use Rattle.ciborium_ll_decoder.specs.Segments.{progress_of, string_decoder, string_reference, string_spelling}

-- The decoder that a copy reads from, and the writer that it writes to: for example, a decoder over `61 62` and a
-- writer with room for 2 bytes.
pub record Sides (R W : Type 0) : Type 0 where
  pub decoder : Decoder R
  pub writer : W

module _ {R W : Type 0} where
  -- A decoder and a writer, as the two sides of a copy: for example, a decoder over `01` and a writer with room for 1
  -- byte.
  abbrev pub sides : Decoder R → W → Sides R W
  sides decoder writer = record { decoder = decoder; writer = writer }

-- ---- one body

module _ {R E W F : Type 0} (source : Reader R E) (sink : Writer W F) (kind : Kind) where
  -- The copy read a body of `len` bytes whole, and wrote it: `01 02`, for example, if `len` is 2.
  pub record BodyWritten (len : ℕ) (old new : Sides R W) : Type 0 where
    pub ends : ReadsRest source kind [] len old.decoder new.decoder
    pub written : WritesAll sink old.writer ends.read new.writer

  -- The read of the body stopped, through a buffer of `room` bytes. The copy wrote all of the body that was handed out.
  -- With a `room` of 4, if only 5 of 8 bytes come, it may have written 4.
  pub record BodyUnread (len room place : ℕ) (old : Sides R W) (error : Error E) (new : Sides R W) : Type 0 where
    pub ends : StopsRest source kind [] len room place old.decoder error new.decoder
    pub written : WritesAll sink old.writer ends.part.front new.writer

  -- The writer failed at a chunk, which came through a buffer of `room` bytes. If the body is a text, up to three bytes
  -- after the chunk were read, with which no further text begins. With a `room` of 4, `c3` was read after the chunk
  -- `61 62 63` of `61 62 63 c3 a9`.
  pub record BodyUnwritten (len room : ℕ) (old new : Sides R W) : Type 0 where
    pub front : List ℕ
    pub chunk : List ℕ
    pub kept : List ℕ
    pub between : W
    pub passed : ReadsPast source old.decoder (front ++ (chunk ++ kept)) new.decoder
    pub within : length front < len
    pub filled : length chunk + length kept ≡ min room (len - length front)
    pub few : length kept ≤ most_kept kind
    pub stuck : IsStuck kept
    pub sound : IsWritable kind (front ++ chunk)
    pub written : WritesAll sink old.writer front between
    pub stopped : WritesFront sink between chunk new.writer

  -- The copy of a body of `len` bytes through a buffer of `room` bytes. `place` is the place of the body's title. The
  -- copy wrote all that was read and handed out, or the writer failed at a chunk. If `len` is 2, `Ok` says that a body
  -- of 2 bytes was copied.
  abbrev pub CopiesBody : ℕ → ℕ → ℕ → Sides R W → Result (Unit {0}) (RecodeError E F) → Sides R W → Type 0
  CopiesBody len room place old (Ok done) new = BodyWritten len old new
  CopiesBody len room place old (Err (r.Read error)) new = BodyUnread len room place old error new
  CopiesBody len room place old (Err (r.Write fault)) new = BodyUnwritten len room old new

module _ {R E W F P : Type 0} {parser : Parser P} (source : Reader R E) (sink : Writer W F) where
  -- `copy` of a string copies the body that `advance` gave last, and the string goes on as before. The writer stays on
  -- its slice. After `5f 41` this body may be `01`.
  pub record CopiesSegment (body : Body) (room : ℕ) (old : Segments R P parser) (writer : W)
      (result : Result (Unit {0}) (RecodeError E F)) (new : Segments R P parser) (writer' : W) : Type 0 where
    pub copied : CopiesBody source sink parser.kind body.length room body.place (sides (string_decoder old) writer)
        result (sides (string_decoder new) writer')
    pub same_reference : string_reference new ≡ string_reference old
    pub progress : progress_of new ≡ progress_of old
    pub mode : string_spelling new ≡ string_spelling old
    pub moves_on : MovesOn source (string_decoder old) (string_decoder new)
    pub target : sink.target writer' ≡ sink.target writer
