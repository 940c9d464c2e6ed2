-- The meaning of a copy of elements if the bytes are told: whatever fails, and if no side fails by itself. A strict
-- decoder takes elements in their shortest spelling alone.
use Rattle.std.specs.Prelude.{◌≡◌, ℕ, ◌+◌, ◌<◌, ◌≤◌, ◌⊎◌, min, max, List, ◌++◌, length, drop, None}
use Rattle.std.specs.Prelude.{Some, Result, Ok, Err}
use Rattle.ciborium_ll_io.specs.declared.io.Read.{Ghosts as Reader}
use Rattle.ciborium_ll_io.specs.declared.io.Write.{Ghosts as Writer}
use Rattle.ciborium_ll_decoder.specs.declared.dec.Decoder.{Decoder}
use Rattle.ciborium_ll_decoder.specs.declared.dec.Error.TheVariants as e
use Rattle.ciborium_ll_decoder.specs.declared.copy.RecodeError.{RecodeError}
use Rattle.ciborium_ll_decoder.specs.declared.copy.RecodeError.TheVariants as r
use Rattle.ciborium_ll_grammar.specs.declared.spelling.Spelling.{Spelling}
use Rattle.ciborium_ll_grammar.specs.declared.spelling.Spelling.TheVariants.{Any, Shortest}
use Rattle.ciborium_ll_grammar.specs.Strings.{IsWritable, most_kept}
use Rattle.ciborium_ll_grammar.specs.Elements.{Mark, spelling, IsRun}
use Rattle.ciborium_ll_grammar.specs.Faults.{Point, Due, In, BodyDue, Reaches, Answer, Short, Syntax, BeginsWithElements}
use Rattle.ciborium_ll_grammar.specs.Faults.{HasFault, with_front}
use Rattle.ciborium_ll_decoder.specs.Decoding.{offset_limit, Begins, view, spelling_of}
use Rattle.ciborium_ll_decoder.specs.Premises.{CanRead, CanWrite, longest_affix}
use Rattle.ciborium_ll_recode.specs.Recoding.{NextWrite}
use Rattle.ciborium_ll_decoder.specs.BodyCopies.{Sides}

-- `StopsAt marks point ahead written consumed`: after the marks a side failed at this point, with these bytes ahead.
-- `written` is everything that is written: for a body under way its shortest title and a front of it. `consumed` counts
-- the bytes ahead that are consumed: at most the first one of a title, and up to three more than are written of a text.
-- At the body of `63`, with `61 c3` ahead, `written` may be `63 61` and `consumed` 2.
abbrev pub StopsAt : List Mark → Point → List ℕ → List ℕ → ℕ → Type 0
StopsAt marks Due ahead written consumed = (written ≡ spelling marks) × (consumed ≤ min 1 (length ahead))
StopsAt marks (In kind) ahead written consumed = (written ≡ spelling marks) × (consumed ≤ min 1 (length ahead))
StopsAt marks (BodyDue kind len start) ahead written consumed =
    (front : List ℕ) × (rest : List ℕ) × (ahead ≡ front ++ rest) × (written ≡ with_front marks kind len front)
    × IsWritable kind front × (length front ≤ consumed) × (consumed ≤ length front + most_kept kind)
    × (consumed ≤ min len (length ahead))

-- A copy of `count` elements stops after a part of them, since no more can be read. `written` is everything that is
-- written of that part. For one element of `43 01 02`, this may be `43 01`.
pub record StopInReading (count : ℕ) (bytes : List ℕ) : Type 0 where
  pub before : List ℕ
  pub marks : List Mark
  pub point : Point
  pub ahead : List ℕ
  pub is : bytes ≡ before ++ ahead
  pub reach : Reaches count before marks point
  pub written : List ℕ
  pub consumed : ℕ
  pub stops : StopsAt marks point ahead written consumed

-- The writer stops a copy of `count` elements through a buffer of `room` bytes, at one title or one chunk. All elements
-- were read, or a part. Everything before the title or chunk is written, and a beginning of it. The bytes that were
-- read and are not written are of the chunk's body. For one element of `45 01 02 03 04 05` and a `room` of 4, `45 01`
-- may be written and `05` not be read.
pub record StopInWriting (count room : ℕ) (bytes : List ℕ) : Type 0 where
  pub before : List ℕ
  pub read : List ℕ
  pub rest : List ℕ
  pub is : bytes ≡ (before ++ read) ++ rest
  pub whole : List ℕ
  pub next : List ℕ
  pub next_write : NextWrite count room before read whole next
  pub written : List ℕ
  pub begun : (part : List ℕ) × (written ≡ whole ++ part) × Begins part next

-- The room is enough for the spelling of `count` elements if that many are next, and otherwise for as many bytes as are
-- due. For two elements of `18 17 01`, it is 2 or more.
abbrev pub HasRoom : ℕ → List ℕ → ℕ → Type 0
HasRoom count due room =
    ((front : BeginsWithElements Any count due) × (length (spelling front.marks) ≤ room)) ⊎ (length due ≤ room)

module _ {R E W F : Type 0} (source : Reader R E) (sink : Writer W F) where
  -- The bytes that are due and those that were written are told. The decoder is strict or not, as given. No header may
  -- wait on a strict decoder, which never read that header itself. If the header of `82` waits before `01 02`, the
  -- bytes that are due are `82 01 02`.
  pub record IsTold (allowed : Spelling) (now : Sides R W) (due written : List ℕ) : Type 0 where
    pub mode : spelling_of now.decoder ≡ allowed
    pub due-told : view source now.decoder ≡ Some due
    pub written-told : sink.written now.writer ≡ Some written
    pub none_waits : allowed ≡ Shortest → now.decoder.waiting ≡ None

  -- The decoder can read through a buffer of `room-in` bytes, and the writer can write the copy. The decoder is strict
  -- or not, as given. For two elements of `18 17 01`, the writer has room for 2 bytes.
  pub record IsReady (allowed : Spelling) (count room-in : ℕ) (now : Sides R W)
      (due written : List ℕ) : Type 0 where
    pub mode : spelling_of now.decoder ≡ allowed
    pub can_read : CanRead source room-in now.decoder due
    pub can_write : CanWrite sink (HasRoom count due) now.writer written

  -- ---- from the old decoder to both sides: of the old writer it is said what was written

  -- The bytes that were due began with `count` elements. Exactly their shortest spelling was written, and exactly the
  -- bytes that follow are left. The spelling is the same elements again, so a copy of it changes nothing. If one
  -- element of `18 17 01` is due and the copy is not strict, it wrote `17`, and `01` is left.
  pub record CopiesFront (allowed : Spelling) (count : ℕ) (due written : List ℕ) (old : Decoder R)
      (new : Sides R W) : Type 0 where
    pub front : BeginsWithElements allowed count due
    pub output : sink.written new.writer ≡ Some (written ++ spelling front.marks)
    pub again : IsRun count (spelling front.marks) front.marks
    pub left : view source new.decoder ≡ Some front.rest
    pub offset : new.decoder.offset ≡ old.offset + length front.elements
    -- After an element no header waits. Without an element a header waits exactly if one waited before.
    pub settled : 0 < count → new.decoder.waiting ≡ None
    pub still : count ≡ 0 → new.decoder.waiting ≡ old.waiting

  -- The copy met a fault. The answer, the bytes that were written and those that are consumed are the fault's own. If
  -- two elements of `82 1c` are due, the fault is at the byte 1: `82` was written, and `1c` is consumed.
  pub record MeetsFault (allowed : Spelling) (count : ℕ) (due written : List ℕ) (answer : Answer) (old : Decoder R)
      (new : Sides R W) : Type 0 where
    pub fault : HasFault allowed count due
    pub answered : fault.answer ≡ answer
    pub output : sink.written new.writer ≡ Some (written ++ fault.written)
    pub left : view source new.decoder ≡ Some (drop fault.consumed fault.ahead)
    pub offset : new.decoder.offset ≡ old.offset + length fault.before + fault.consumed

  -- `recode` if no side fails by itself: it copies all elements, or the first fault stops it. The relation says which
  -- bytes are written and left, and the offset. For one element of `01 02`, `01` was written and `02` is left.
  abbrev pub RecodesTold : Spelling → ℕ → List ℕ → List ℕ → Decoder R → Result (Unit {0}) (RecodeError E F) → Sides R W
      → Type 0
  RecodesTold allowed count due written old (Ok done) new = CopiesFront allowed count due written old new
  RecodesTold allowed count due written old (Err (r.Read (e.Io fault))) new =
      MeetsFault allowed count due written Short old new
  RecodesTold allowed count due written old (Err (r.Read (e.Syntax place))) new =
      (start : ℕ) × (place ≡ old.offset + start) × MeetsFault allowed count due written (Syntax start) old new
  RecodesTold allowed count due written old (Err (r.Read e.TooLong)) new = ⊥
  RecodesTold allowed count due written old (Err (r.Read e.Waiting)) new = ⊥
  RecodesTold allowed count due written old (Err (r.Write fault)) new = ⊥

  -- ---- where a side may fail by itself

  -- The reader failed, or the offset is full. For one element of `43 01 02`, `43 01` may be written.
  pub record StopsShort (count : ℕ) (due written : List ℕ) (old : Decoder R) (new : Sides R W) : Type 0 where
    pub stop : StopInReading count due
    pub output : sink.written new.writer ≡ Some (written ++ stop.written)
    pub offset : new.decoder.offset ≡ old.offset + length stop.before + stop.consumed

  -- The writer failed. For one element of `43 01 02 03`, `43 01` may be written.
  pub record StopsUnwritten (count room-in : ℕ) (due written : List ℕ) (old : Decoder R) (new : Sides R W) :
      Type 0 where
    pub stop : StopInWriting count room-in due
    pub output : sink.written new.writer ≡ Some (written ++ stop.written)
    pub left : view source new.decoder ≡ Some stop.rest
    pub offset : new.decoder.offset ≡ old.offset + length stop.before + length stop.read

  -- `recode` through a buffer of `room-in` bytes, whatever fails. `Ok` and `Syntax` mean the same as if nothing failed.
  -- After `Ok` for one element of `01 02`, `02` is left.
  abbrev pub RecodesAnyhow : Spelling → ℕ → ℕ → List ℕ → List ℕ → Decoder R → Result (Unit {0}) (RecodeError E F)
      → Sides R W → Type 0
  RecodesAnyhow allowed count room-in due written old (Ok done) new = CopiesFront allowed count due written old new
  RecodesAnyhow allowed count room-in due written old (Err (r.Read (e.Io fault))) new =
      StopsShort count due written old new
  RecodesAnyhow allowed count room-in due written old (Err (r.Read (e.Syntax place))) new =
      (start : ℕ) × (place ≡ old.offset + start) × MeetsFault allowed count due written (Syntax start) old new
  RecodesAnyhow allowed count room-in due written old (Err (r.Read e.TooLong)) new =
      StopsShort count due written old new × (offset_limit ≤ new.decoder.offset + max longest_affix room-in)
  RecodesAnyhow allowed count room-in due written old (Err (r.Read e.Waiting)) new = ⊥
  RecodesAnyhow allowed count room-in due written old (Err (r.Write fault)) new =
      StopsUnwritten count room-in due written old new
