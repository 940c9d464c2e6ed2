-- Headers copied from a decoder to a writer.
use Rattle.std.specs.Prelude.{◌≡◌, ℕ, ◌+◌, ◌<◌, ◌≤◌, List, [], ◌∷◌, ◌++◌, length, take, drop, Some, Result, Ok}
use Rattle.std.specs.Prelude.{Err}
use Rattle.ciborium_ll_io.specs.declared.io.Read.{Ghosts as Reader}
use Rattle.ciborium_ll_io.specs.declared.io.Write.{Ghosts as Writer}
use Rattle.ciborium_ll_grammar.specs.declared.spelling.Spelling.TheVariants.{Any}
use Rattle.ciborium_ll_grammar.specs.declared.hdr.Header.{Header}
use Rattle.ciborium_ll_decoder.specs.declared.dec.Decoder.{Decoder}
use Rattle.ciborium_ll_decoder.specs.declared.dec.Error.{Error}
use Rattle.ciborium_ll_decoder.specs.declared.copy.RecodeError.{RecodeError}
use Rattle.ciborium_ll_decoder.specs.declared.copy.RecodeError.TheVariants as r
use Rattle.ciborium_ll_decoder.specs.declared.dec.Error.TheVariants as e
use Rattle.ciborium_ll_grammar.specs.Title.{IsTitle, shortest_title, BeginsRefused, IsCutTitle}
use Rattle.ciborium_ll_decoder.specs.Decoding.{view, MovesOn, ReadsPast, DecoderPullAnswer, spelling_of}
use Rattle.ciborium_ll_decoder.specs.Premises.{CanRead, CanWrite}
use Rattle.ciborium_ll_decoder.specs.BodyCopies.{Sides, sides}
use Rattle.ciborium_ll_io.specs.Writes.{WritesAll, WritesFront}

-- The bytes are titles of the headers, joined: `81 18 17` for an array of one item and the number 23.
pub data AreTitles : List ℕ → List Header → Type 0 where
  none : AreTitles [] []
  next : {title rest : List ℕ} {header : Header} {headers : List Header} → IsTitle title header → AreTitles rest headers
      → AreTitles (title ++ rest) (header ∷ headers)

-- The shortest titles of the headers, joined: `81 17` for an array of one item and the number 23.
abbrev pub shortest_titles : List Header → List ℕ
shortest_titles [] = []
shortest_titles (header ∷ headers) = shortest_title header ++ shortest_titles headers

-- The bytes begin with `count` titles: `82 01 02` with any number of titles from 0 to 3.
pub record TitlesInFront (count : ℕ) (bytes : List ℕ) : Type 0 where
  pub headers : List Header
  pub all : length headers ≡ count
  pub front : List ℕ
  pub rest : List ℕ
  pub parts : bytes ≡ front ++ rest
  pub titles : AreTitles front headers

module _ {R E W F : Type 0} (source : Reader R E) (sink : Writer W F) where
  -- The titles of the headers were read, and their shortest titles were written: `81 18 17`, for example, and `81 17`.
  pub record Copies (headers : List Header) (old new : Sides R W) : Type 0 where
    pub bytes : List ℕ
    pub titles : AreTitles bytes headers
    pub passed : ReadsPast source old.decoder bytes new.decoder
    pub written : WritesAll sink old.writer (shortest_titles headers) new.writer

  -- All headers were copied. The bytes written are titles of the same headers: `81 17`, if `81 18 17` was read.
  pub record CopiesEach (count : ℕ) (old new : Sides R W) : Type 0 where
    pub headers : List Header
    pub all : length headers ≡ count
    pub copied : Copies headers old new
    pub again : AreTitles (shortest_titles headers) headers

  -- After fewer headers, `pull` failed with this error. If `count` is 2, over `01 1c` it failed at `1c`.
  pub record StopsAtPull (count : ℕ) (old : Sides R W) (error : Error E) (new : Sides R W) : Type 0 where
    pub headers : List Header
    pub fewer : length headers < count
    pub between : Decoder R
    pub copied : Copies headers old (sides between new.writer)
    pub stopped : DecoderPullAnswer source between (Err error) new.decoder

  -- After fewer headers, `push` of the next header failed. With room for 1 byte, over `01 02` this is the header of
  -- `02`.
  pub record StopsAtPush (count : ℕ) (old new : Sides R W) : Type 0 where
    pub headers : List Header
    pub fewer : length headers < count
    pub between : Sides R W
    pub copied : Copies headers old between
    pub last : Header
    pub pulled : DecoderPullAnswer source between.decoder (Ok last) new.decoder
    pub stopped : WritesFront sink between.writer (shortest_title last) new.writer

  -- The effect of `copy_headers` with `count` headers, by its answer. Over `01 1c` it is `Ok` for 1 header, and an
  -- error for 2.
  abbrev pub CopiesHeaders : ℕ → Sides R W → Result (Unit {0}) (RecodeError E F) → Sides R W → Type 0
  CopiesHeaders count old (Ok done) new = CopiesEach count old new
  CopiesHeaders count old (Err (r.Read error)) new = StopsAtPull count old error new
  CopiesHeaders count old (Err (r.Write fault)) new = StopsAtPush count old new

  -- The effect of `copy_headers` if any call may fail, with the facts that it keeps. The writer stays on its slice.
  -- After `Ok` for 2 headers of `01 02 03`, `01 02` was written.
  pub record CopiesByHeaders (count : ℕ) (old : Sides R W) (result : Result (Unit {0}) (RecodeError E F))
      (new : Sides R W) : Type 0 where
    pub copied : CopiesHeaders count old result new
    pub moves_on : MovesOn source old.decoder new.decoder
    pub target : sink.target new.writer ≡ sink.target old.writer

  -- ---- over bytes that are told

  -- The decoder is not strict, and can read without a buffer. The writer has room for as many bytes as are due. If
  -- `18 17` is due, this is room for 2 bytes.
  pub record IsReadyForTitles (now : Sides R W) (due written : List ℕ) : Type 0 where
    pub lenient : spelling_of now.decoder ≡ Any
    pub can_read : CanRead source 0 now.decoder due
    pub can_write : CanWrite sink (λ room. length due ≤ room) now.writer written

  -- The bytes due begin with titles of the headers, and their shortest titles were written: `81 17` if `81 18 17` is
  -- due.
  pub record CopiesTitles (headers : List Header) (due written : List ℕ) (writer' : W) : Type 0 where
    pub front : List ℕ
    pub rest : List ℕ
    pub parts : due ≡ front ++ rest
    pub titles : AreTitles front headers
    pub output : sink.written writer' ≡ Some (written ++ shortest_titles headers)

  -- `count` titles were copied, and the bytes that follow them are left. If `81 18 17 05` is due and `count` is 2, `05`
  -- is left.
  pub record CopiesSoMany (count : ℕ) (due written : List ℕ) (old : Decoder R) (new : Sides R W) : Type 0 where
    pub headers : List Header
    pub all : length headers ≡ count
    pub copied : CopiesTitles headers due written new.writer
    pub again : AreTitles (shortest_titles headers) headers
    pub left : view source new.decoder ≡ Some copied.rest
    pub offset : new.decoder.offset ≡ old.offset + length copied.front

  -- After fewer titles the bytes end, at once or within a title. The title's first byte is consumed. If `01 19 00` is
  -- due, the title at `19` is cut, and `00` is left.
  pub record MeetsCutTitle (count : ℕ) (due written : List ℕ) (old : Decoder R) (new : Sides R W) : Type 0 where
    pub headers : List Header
    pub fewer : length headers < count
    pub copied : CopiesTitles headers due written new.writer
    pub cut : IsCutTitle copied.rest
    pub left : view source new.decoder ≡ Some (drop 1 copied.rest)
    pub offset : new.decoder.offset ≡ old.offset + length copied.front + length (take 1 copied.rest)

  -- After fewer titles a byte comes with which no title begins. The byte is consumed, and the place is its offset: 1
  -- for `01 1c`, from offset 0 on.
  pub record MeetsRefused (count : ℕ) (due written : List ℕ) (place : ℕ) (old : Decoder R) (new : Sides R W) : Type 0
    where
      pub headers : List Header
      pub fewer : length headers < count
      pub copied : CopiesTitles headers due written new.writer
      pub refused : BeginsRefused copied.rest
      pub at : place ≡ old.offset + length copied.front
      pub left : view source new.decoder ≡ Some (drop 1 copied.rest)
      pub offset : new.decoder.offset ≡ place + 1

  -- The effect of `copy_headers` over such bytes: it ends after all titles, or at the first place without a title. Each
  -- case gives the titles copied, the bytes left and the offset. If `01 1c` is due and `count` is 2, `01` was copied
  -- and nothing is left.
  abbrev pub CopiesTold : ℕ → List ℕ → List ℕ → Decoder R → Result (Unit {0}) (RecodeError E F) → Sides R W → Type 0
  CopiesTold count due written old (Ok done) new = CopiesSoMany count due written old new
  CopiesTold count due written old (Err (r.Read (e.Io fault))) new = MeetsCutTitle count due written old new
  CopiesTold count due written old (Err (r.Read (e.Syntax place))) new = MeetsRefused count due written place old new
  CopiesTold count due written old (Err (r.Read e.TooLong)) new = ⊥
  CopiesTold count due written old (Err (r.Read e.Waiting)) new = ⊥
  CopiesTold count due written old (Err (r.Write fault)) new = ⊥
