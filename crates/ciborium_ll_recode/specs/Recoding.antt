-- The copy of elements from a decoder to a writer, over any reader and writer. The relations speak of bytes that are
-- told. They lead from the two sides of the copy before a call to the two sides after it. This file hands on the copy
-- of a body.
use Rattle.std.specs.Prelude.{◌≡◌, ℕ, suc, ◌+◌, ◌-◌, ◌<◌, ◌≤◌, ◌⊎◌, min, List, [], ◌∷◌, ◌++◌, length, Some, None}
use Rattle.std.specs.Prelude.{Result, Ok, Err}
use Rattle.ciborium_ll_io.specs.declared.io.Read.{Ghosts as Reader}
use Rattle.ciborium_ll_io.specs.declared.io.Write.{Ghosts as Writer}
use Rattle.ciborium_ll_grammar.specs.declared.hdr.Header.{Header}
use Rattle.ciborium_ll_decoder.specs.declared.dec.Decoder.{Decoder}
use Rattle.ciborium_ll_decoder.specs.declared.dec.Error.{Error}
use Rattle.ciborium_ll_decoder.specs.declared.dec.Error.TheVariants as e
use Rattle.ciborium_ll_decoder.specs.declared.copy.RecodeError.{RecodeError}
use Rattle.ciborium_ll_decoder.specs.declared.copy.RecodeError.TheVariants as r
use Rattle.ciborium_ll_grammar.specs.Title.{IsTitle, IsStrictTitle, shortest_title}
use Rattle.ciborium_ll_grammar.specs.Strings.{Kind, kind_header, IsWritable, most_kept}
use Rattle.ciborium_ll_grammar.specs.Elements.{Mark, Open, mark_spelling, pieces, open_marks, spelling, IsElement}
use Rattle.ciborium_ll_grammar.specs.Elements.{IsRun, IsStrictSpelling}
use Rattle.ciborium_ll_grammar.specs.Faults.{Point, In, BodyDue, Reaches, IsAtTitle, IsRefusedIn, with_front}
use Rattle.ciborium_ll_decoder.specs.Decoding.{offset_limit, MovesOn, Strictly, ReadsPast, DecoderPullAnswer, PullsTitle}
use Rattle.ciborium_ll_decoder.specs.Decoding.{spelling_of}
use Rattle.ciborium_ll_decoder.specs.Segments.{PullsOther}
use Rattle.ciborium_ll_decoder.specs.BodyCopies.{Sides, sides}
pub use Rattle.ciborium_ll_decoder.specs.BodyCopies.{BodyWritten, BodyUnread, BodyUnwritten}
pub use Rattle.ciborium_ll_decoder.specs.BodyCopies.{CopiesBody, CopiesSegment}
use Rattle.ciborium_ll_io.specs.Writes.{WritesAll, WritesFront}

-- ---- one header

module _ {E W F : Type 0} (sink : Writer W F) where
  -- The write of a header, by its answer. The header of the number 24 is written as `18 18`.
  abbrev pub WritesHeader : W → Result (Unit {0}) (RecodeError E F) → Header → W → Type 0
  WritesHeader writer (Ok done) header writer' = WritesAll sink writer (shortest_title header) writer'
  WritesHeader writer (Err (r.Write fault)) header writer' = WritesFront sink writer (shortest_title header) writer'
  WritesHeader writer (Err (r.Read error)) header writer' = ⊥

-- ---- elements

-- `NextWrite count room before read whole next`: a copy of `count` elements goes through a buffer of `room` bytes. It
-- read the bytes `before`, and then the bytes `read` of a body. It wrote the bytes `whole` for them, and the title or
-- chunk `next` is to be written next. For one element, a `room` of 4, and `01 02 03 04` read after `45`, `whole` is
-- `45` and `next` is `01 02 03 04`.
pub data NextWrite (count room : ℕ) : List ℕ → List ℕ → List ℕ → List ℕ → Type 0 where
  -- A title without a body, which is the last mark: that of an element, of the open of a string, or of its break.
  Alone : {before : List ℕ} (marks : List Mark) (mark : Mark) (header : Header)
      → mark_spelling mark ≡ shortest_title header
      → IsRun count before (marks ++ mark ∷ []) ⊎
      ((point : Point) × Reaches count before (marks ++ mark ∷ []) point × IsAtTitle point)
      → NextWrite count room before [] (spelling marks) (shortest_title header)
  -- The title of a body.
  Titled : {before : List ℕ} (marks : List Mark) (kind : Kind) (len start : ℕ)
      → Reaches count before marks (BodyDue kind len start)
      → NextWrite count room before [] (spelling marks) (shortest_title (kind_header kind (Some len)))
  -- A chunk of a body, after its title and a front of it. The copy reads as many bytes after the front as the buffer
  -- holds, or as the body has. It keeps up to three of them for the next chunk if the body is a text.
  Chunk : {before : List ℕ} (marks : List Mark) (kind : Kind) (len start : ℕ) (front chunk kept : List ℕ)
      → Reaches count before marks (BodyDue kind len start) → IsWritable kind (front ++ chunk) → length front < len
      → length chunk + length kept ≡ min room (len - length front) → length kept ≤ most_kept kind
      → NextWrite count room before (front ++ (chunk ++ kept)) (with_front marks kind len front) chunk

module _ {R E W F : Type 0} (source : Reader R E) (sink : Writer W F) where
  -- The copy read the bytes, and wrote the spelling of the marks: it read `18 17`, for example, and wrote `17`.
  pub record Copied (old : Sides R W) (bytes : List ℕ) (marks : List Mark) (new : Sides R W) : Type 0 where
    pub passed : ReadsPast source old.decoder bytes new.decoder
    pub written : WritesAll sink old.writer (spelling marks) new.writer

  -- A copy of `count` elements. The two elements `18 17 82` of a decoder that is not strict are written as `17 82`.
  pub record CopiesRun (count : ℕ) (old new : Sides R W) : Type 0 where
    pub bytes : List ℕ
    pub marks : List Mark
    pub run : IsRun count bytes marks
    pub copied : Copied old bytes marks new
    -- A strict decoder's bytes are written again as they are.
    pub strict : Strictly old.decoder (IsStrictSpelling bytes marks [])

  -- A copy of all elements. It wrote the same elements again, with the same marks, and no longer: `17`, if it read
  -- `18 17`.
  pub record CopiesAll (count : ℕ) (old new : Sides R W) : Type 0 where
    pub elements : CopiesRun count old new
    pub again : IsRun count (spelling elements.marks) elements.marks
    pub shorter : length (spelling elements.marks) ≤ length elements.bytes
    -- After an element no header waits.
    pub settled : 0 < count → new.decoder.waiting ≡ None

  -- A title is due, and `pull` failed there. If two elements of `82 1c` are due, it failed at `1c`.
  pub record StopsAtTitle (count : ℕ) (old : Sides R W) (error : Error E) (new : Sides R W) : Type 0 where
    pub bytes : List ℕ
    pub marks : List Mark
    pub point : Point
    pub reaches : Reaches count bytes marks point
    pub at_title : IsAtTitle point
    pub between : Decoder R
    pub copied : Copied old bytes marks (sides between new.writer)
    pub fails : DecoderPullAnswer source between (Err error) new.decoder
    pub strict : Strictly old.decoder (IsStrictSpelling bytes marks [])

  -- A title came that may not stand within its string. In `5f 01` this is `01`.
  pub record StopsAtOther (count : ℕ) (old : Sides R W) (at : ℕ) (new : Sides R W) : Type 0 where
    pub bytes : List ℕ
    pub marks : List Mark
    pub kind : Kind
    pub reaches : Reaches count bytes marks (In kind)
    pub between : Decoder R
    pub copied : Copied old bytes marks (sides between new.writer)
    pub other : PullsOther source (IsRefusedIn (spelling_of between) kind) between at new.decoder
    pub strict : Strictly old.decoder (IsStrictSpelling bytes marks [])

  -- There are more opens than can be counted, and at least as many bytes. The offset is then 2^64 - 1, the greatest
  -- number.
  pub record StopsTooDeep (count : ℕ) (old new : Sides R W) : Type 0 where
    pub bytes : List ℕ
    pub marks : List Mark
    pub kind : Kind
    pub reaches : Reaches count bytes marks (In kind)
    pub between : Decoder R
    pub copied : Copied old bytes marks (sides between new.writer)
    pub pulled : PullsTitle source between (kind_header kind None) new.decoder
    pub full : offset_limit ≤ new.decoder.offset + 1

  -- The copy wrote the title of a body, and failed at the body. The copy of `62 c3 28` wrote `62`, and the body is no
  -- text.
  pub record StopsInBody (count room : ℕ) (old : Sides R W) (error : Error E) (new : Sides R W) : Type 0 where
    pub bytes : List ℕ
    pub marks : List Mark
    pub kind : Kind
    pub len : ℕ
    pub start : ℕ
    pub reaches : Reaches count bytes marks (BodyDue kind len start)
    pub between : Sides R W
    pub copied : Copied old bytes marks between
    pub titled : W
    pub title : WritesAll sink between.writer (shortest_title (kind_header kind (Some len))) titled
    pub stopped : BodyUnread source sink kind len room (old.decoder.offset + start) (sides between.decoder titled)
        error new
    pub strict : Strictly old.decoder
        (IsStrictSpelling bytes marks (shortest_title (kind_header kind (Some len))))

  -- The writer failed at one title or one chunk. Everything before it was written, and at most a beginning of it. With
  -- room for 2 bytes, the copy of `01 43 02 03 04` failed at the body.
  pub record StopsWriting (count room : ℕ) (old new : Sides R W) : Type 0 where
    pub bytes : List ℕ
    pub read : List ℕ
    pub passed : ReadsPast source old.decoder (bytes ++ read) new.decoder
    pub whole : List ℕ
    pub next : List ℕ
    pub next_write : NextWrite count room bytes read whole next
    pub between : W
    pub written : WritesAll sink old.writer whole between
    pub fails : WritesFront sink between next new.writer

  -- The copy of `count` elements through a buffer of `room` bytes stops with this error. For 2 elements of `82 1c` from
  -- the offset 0 on, this is `Syntax(1)`.
  abbrev pub StopsCopy : ℕ → ℕ → Sides R W → RecodeError E F → Sides R W → Type 0
  StopsCopy count room old (r.Read (e.Io fault)) new =
      StopsAtTitle count old (e.Io fault) new ⊎ StopsInBody count room old (e.Io fault) new
  StopsCopy count room old (r.Read (e.Syntax at)) new =
      StopsAtTitle count old (e.Syntax at) new ⊎
      (StopsAtOther count old at new ⊎ StopsInBody count room old (e.Syntax at) new)
  StopsCopy count room old (r.Read e.TooLong) new =
      StopsAtTitle count old e.TooLong new ⊎ (StopsTooDeep count old new ⊎ StopsInBody count room old e.TooLong new)
  StopsCopy count room old (r.Read e.Waiting) new = ⊥
  StopsCopy count room old (r.Write fault) new = StopsWriting count room old new

  -- `recode` of `count` elements, by its answer: it copied all of them, or stopped. Over `82 1c` it copied 1 element,
  -- but stopped for 2.
  abbrev pub CopiesElements : ℕ → ℕ → Sides R W → Result (Unit {0}) (RecodeError E F) → Sides R W → Type 0
  CopiesElements count room old (Ok done) new = CopiesAll count old new
  CopiesElements count room old (Err error) new = StopsCopy count room old error new

  -- ---- the parts of the copy: each goes on from any copy that came so far

  -- After a copy of `before` elements a further one is due, and the bytes of its title were read. If `before` is 1,
  -- `01 43` may be read.
  pub record IsBehind (count before : ℕ) (title : List ℕ) (old now : Sides R W) : Type 0 where
    pub bytes : List ℕ
    pub marks : List Mark
    pub due : before < count
    pub run : IsRun before bytes marks
    pub copied : Copied old (bytes ++ title) marks now
    pub strict : Strictly old.decoder (IsStrictSpelling bytes marks [])

  -- One element more is copied, or an error stops the copy. If `before` is 1, `Ok` says that 2 are copied.
  abbrev pub GoesOn : ℕ → ℕ → ℕ → Sides R W → Result (Unit {0}) (RecodeError E F) → Sides R W → Type 0
  GoesOn count before room old (Ok done) new = CopiesRun (suc before) old new
  GoesOn count before room old (Err error) new = StopsCopy count room old error new

  -- The copy of an element, which goes on from any copy that came so far: of `02`, for example, after a copy of `01`.
  abbrev pub CopiesElement : ℕ → Sides R W → Result (Unit {0}) (RecodeError E F) → Sides R W → Type 0
  CopiesElement room now result new = (count before : ℕ) (old : Sides R W) → IsBehind count before [] old now
      → GoesOn count before room old result new

  -- The copy of an element after its title: of the body `01 02`, for example, after `42`.
  abbrev pub CopiesBehind : Header → ℕ → Sides R W → Result (Unit {0}) (RecodeError E F) → Sides R W → Type 0
  CopiesBehind header room now result new = (count before : ℕ) (old : Sides R W) (title : List ℕ)
      → IsTitle title header → Strictly old.decoder (IsStrictTitle title header) → IsBehind count before title old now
      → GoesOn count before room old result new

  -- The copy read the segments of a string of indefinite length and its break, and wrote the open and the pieces. For
  -- `5f 41 01 ff` it wrote `5f 41 01`.
  pub record ReadsString (before : ℕ) (kind : Kind) (old new : Sides R W) : Type 0 where
    pub bytes : List ℕ
    pub marks : List Mark
    pub run : IsRun before bytes marks
    pub element : List ℕ
    pub bodies : List (List ℕ)
    pub is_element : IsElement element (open_marks kind bodies)
    pub copied : Copied old (bytes ++ element) (marks ++ Open kind ∷ pieces kind bodies) new
    pub strict : Strictly old.decoder (IsStrictSpelling (bytes ++ element) (marks ++ open_marks kind bodies) [])

  -- The copy comes to the last break of a string, or an error stops it. In `5f 41 01 ff` this break is `ff`.
  abbrev pub GoesOnWithin : ℕ → ℕ → Kind → ℕ → Sides R W → Result (Unit {0}) (RecodeError E F) → Sides R W → Type 0
  GoesOnWithin count before kind room old (Ok done) new = ReadsString before kind old new
  GoesOnWithin count before kind room old (Err error) new = StopsCopy count room old error new

  -- After a copy of `before` elements the open of a string was read and written. If `before` is 1, `01 5f` may be read.
  pub record IsWithin (count before : ℕ) (kind : Kind) (old now : Sides R W) : Type 0 where
    pub bytes : List ℕ
    pub marks : List Mark
    pub due : before < count
    pub run : IsRun before bytes marks
    pub copied : Copied old (bytes ++ shortest_title (kind_header kind None)) (marks ++ Open kind ∷ []) now
    pub strict : Strictly old.decoder (IsStrictSpelling bytes marks [])

  -- The copy of the segments of a string after its open: of `41 01 ff`, for example, after `5f`.
  abbrev pub CopiesSegments : Kind → ℕ → Sides R W → Result (Unit {0}) (RecodeError E F) → Sides R W → Type 0
  CopiesSegments kind room now result new = (count before : ℕ) (old : Sides R W) → IsWithin count before kind old now
      → GoesOnWithin count before kind room old result new

  -- ---- the calls, with what they keep

  -- `copy_element` goes on from any copy that came so far. The writer stays on its slice. If it succeeds over `01 02`,
  -- it copied `01`.
  pub record CopiesOne (room : ℕ) (old : Sides R W) (result : Result (Unit {0}) (RecodeError E F)) (new : Sides R W) :
      Type 0 where
    pub copied : CopiesElement room old result new
    pub moves_on : MovesOn source old.decoder new.decoder
    pub target : sink.target new.writer ≡ sink.target old.writer

  -- `recode` of `count` elements through a buffer of `room` bytes, whatever fails. The writer stays on its slice. After
  -- `Ok` for 2 elements of `01 02 03`, `01 02` was written.
  pub record Recodes (count room : ℕ) (old : Sides R W) (result : Result (Unit {0}) (RecodeError E F))
      (new : Sides R W) : Type 0 where
    pub copied : CopiesElements count room old result new
    pub moves_on : MovesOn source old.decoder new.decoder
    pub target : sink.target new.writer ≡ sink.target old.writer
