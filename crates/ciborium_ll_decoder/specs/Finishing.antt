-- `finish` of a segment, which reads the rest of the body.
use Rattle.std.specs.Prelude.{◌≡◌, ℕ, ◌+◌, ◌-◌, ◌<◌, ◌≤◌, ◌⊎◌, min, true, false, List, [], ◌++◌, length, Some}
use Rattle.std.specs.Prelude.{Result, Ok, Err}
use Rattle.ciborium_ll_io.specs.declared.io.Read.{Ghosts}
use Rattle.ciborium_ll_decoder.specs.declared.dec.Decoder.{Decoder}
use Rattle.ciborium_ll_decoder.specs.declared.dec.Error.{Error}
use Rattle.ciborium_ll_decoder.specs.declared.dec.Error.TheVariants as e
use Rattle.ciborium_ll_decoder.specs.declared.seg.Parser.{Ghosts as Parser}
use Rattle.ciborium_ll_decoder.specs.declared.seg.Body.{Body}
use Rattle.ciborium_ll_decoder.specs.declared.seg.Segment.{Segment}
use Rattle.ciborium_ll_decoder.specs.declared.seg.Segments.{Segments}
use Rattle.ciborium_ll_grammar.specs.Title.{title_len}
use Rattle.ciborium_ll_grammar.specs.Strings.{Kind, Text, IsWritable, kind_header, most_kept}
use Rattle.ciborium_ll_text.specs.Text.{IsCharacters, IsStuck, BeginsNoText}
use Rattle.ciborium_ll_decoder.specs.Kept.{kept_bytes}
use Rattle.ciborium_ll_decoder.specs.Decoding.{offset_limit, MovesOn, ReadsPast, ReadFails, IsUntouched}
use Rattle.ciborium_ll_decoder.specs.Segments.{progress_of, string_decoder, string_reference, string_spelling}

-- The bytes `kept` were kept, `unread` bytes were unread, and the bytes `read` are those that were read since. Kept and
-- read bytes together are no text, as the whole body or however it goes on. If `c3` was kept and one byte was unread,
-- `61` makes no text.
abbrev pub IsNoText : List ℕ → ℕ → List ℕ → Type 0
IsNoText kept unread read = ((length read ≡ unread) × (IsCharacters (kept ++ read) → ⊥)) ⊎ BeginsNoText (kept ++ read)

-- The bytes `kept` of a body are kept, and `unread` bytes of it are unread.
module _ {R E : Type 0} (source : Ghosts R E) (kind : Kind) (kept : List ℕ) (unread : ℕ) where
  -- All of the rest was read. If the body is that of a text, the kept bytes and the rest are text (RFC 7049, 2.1). If a
  -- text kept `c3`, the rest may be `a9`.
  pub record ReadsRest (old new : Decoder R) : Type 0 where
    pub read : List ℕ
    pub all : length read ≡ unread
    pub sound : IsWritable kind (kept ++ read)
    pub passed : ReadsPast source old read new

  -- A beginning of the rest was read. If the body is that of a text, the bytes so far are characters and then up to
  -- three bytes. No further text begins with these. A beginning of the text body `61 c3 a9` is `61 c3`.
  pub record BeginsRest (old between : Decoder R) : Type 0 where
    pub read : List ℕ
    pub front : List ℕ
    pub left : List ℕ
    pub parts : kept ++ read ≡ front ++ left
    pub few : length left ≤ most_kept kind
    pub stuck : IsStuck left
    pub sound : IsWritable kind front
    pub within : length read ≤ unread
    pub passed : ReadsPast source old read between

  -- After the bytes `read` of the rest `count` more bytes were read. With them the body of a text is no text, as a
  -- whole or however it goes on (RFC 7049, 2.1). After `c3`, the byte `28` makes no text.
  pub record GivesNoText (read : List ℕ) (count : ℕ) (between new : Decoder R) : Type 0 where
    pub textual : kind ≡ Text
    pub last : List ℕ
    pub all : length last ≡ count
    pub no_text : IsNoText kept unread (read ++ last)
    pub passed : ReadsPast source between last new

  -- The read of `count` bytes after the bytes `read` stops with this error: the reader failed, the body at this place
  -- is no text, or the offset can't take that many bytes. At the offset 2^64 - 2 it can't take 2.
  abbrev pub StopsReading : List ℕ → ℕ → ℕ → Decoder R → Error E → Decoder R → Type 0
  StopsReading read place count between (e.Io fault) new = (0 < count) × ReadFails source between count new
  StopsReading read place count between (e.Syntax at) new = (at ≡ place) × GivesNoText read count between new
  StopsReading read place count between e.TooLong new =
      (offset_limit ≤ between.offset + count) × IsUntouched between new
  StopsReading read place count between e.Waiting new = ⊥

  -- After a beginning of the rest one more read stopped the read of the body. With the kept bytes that read was to fill
  -- the buffer, or to take all that is left of the body. With room for 4 bytes, one kept and 9 left to read, the read
  -- was of 3 bytes.
  pub record StopsRest (room place : ℕ) (old : Decoder R) (error : Error E) (new : Decoder R) : Type 0 where
    pub between : Decoder R
    pub part : BeginsRest old between
    pub count : ℕ
    pub filled : length part.left + count ≡ min room (length part.left + (unread - length part.read))
    pub stops : StopsReading part.read place count between error new

  -- `EndsBody source kind kept unread room place old result new`: the read of a body at this place to its end, through
  -- a buffer of `room` bytes, by its answer. At first `unread` bytes of the body are unread, and the bytes `kept` are
  -- kept. After `42`, 2 bytes are unread, and none are kept.
  abbrev pub EndsBody : ℕ → ℕ → Decoder R → Result (Unit {0}) (Error E) → Decoder R → Type 0
  EndsBody room place old (Ok done) new = ReadsRest old new
  EndsBody room place old (Err error) new = StopsRest room place old error new

module _ {R E P : Type 0} {parser : Parser P} (source : Ghosts R E) where
  -- The segment was damaged before, and nothing is read. For a segment with the place 3 the answer is `Syntax(3)`.
  pub record EndsDamaged (segment : Segment R P parser) (result : Result (Unit {0}) (Error E)) (new : Decoder R) :
      Type 0 where
    pub damaged : segment.damaged ≡ true
    pub answer : result ≡ Err (e.Syntax segment.place)
    pub same : new ≡ segment.decoder.now

  -- The segment is sound so far, and the rest of its body is read: `02`, if the chunk `01` of the body `01 02` came.
  pub record EndsSound (room : ℕ) (segment : Segment R P parser) (result : Result (Unit {0}) (Error E))
      (new : Decoder R) : Type 0 where
    pub undamaged : segment.damaged ≡ false
    pub ends : EndsBody source parser.kind (kept_bytes segment.kept) segment.unread room segment.place
        segment.decoder.now result new

  -- `finish` of a segment through a buffer of `room` bytes, and the decoder afterwards. The rest is read to its end, or
  -- the segment was damaged before and nothing is read. If 2 of 5 bytes came, it reads 3.
  abbrev pub Finishes : ℕ → Segment R P parser → Result (Unit {0}) (Error E) → Decoder R → Type 0
  Finishes room segment result new = EndsSound room segment result new ⊎ EndsDamaged segment result new

  -- `finish` of a segment, and the facts that it keeps. If 3 bytes were unread, `Ok` raises the offset by 3.
  pub record SegmentFinish (room : ℕ) (segment : Segment R P parser) (result : Result (Unit {0}) (Error E))
      (new : Decoder R) : Type 0 where
    pub finishes : Finishes room segment result new
    pub moves_on : MovesOn source segment.decoder.now new

  -- `finish` of a string reads the body that `advance` gave last, and the string goes on as before. In `5f 41 01 ff` it
  -- reads `01`, and then `ff` is due.
  pub record FinishesBody (body : Body) (room : ℕ) (old : Segments R P parser) (result : Result (Unit {0}) (Error E))
      (new : Segments R P parser) : Type 0 where
    pub finishes : EndsBody source parser.kind [] body.length room body.place (string_decoder old) result
        (string_decoder new)
    pub same_reference : string_reference new ≡ string_reference old
    pub progress : progress_of new ≡ progress_of old
    pub mode : string_spelling new ≡ string_spelling old
    pub moves_on : MovesOn source (string_decoder old) (string_decoder new)

module _ {R E : Type 0} (source : Ghosts R E) (kind : Kind) where
  -- `finish_body` after the header of a string of `len` bytes, and the facts that it keeps. If the body of `78 01 61`
  -- begins at the offset 2, its place is 1: the shortest title has one byte.
  pub record FinishesString (len room : ℕ) (old : Decoder R) (result : Result (Unit {0}) (Error E))
      (new : Decoder R) : Type 0 where
    pub finishes : EndsBody source kind [] len room (old.offset - title_len (kind_header kind (Some len))) old result
        new
    pub moves_on : MovesOn source old new
