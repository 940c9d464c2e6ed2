-- A body drained into a writer, through buffers of given sizes.
use Rattle.std.specs.Prelude.{◌≡◌, ℕ, ◌+◌, ◌-◌, ◌/◌, ◌<◌, ◌≤◌, ◌⊎◌, false, All, List, [], ◌∷◌, ◌++◌, length, take}
use Rattle.std.specs.Prelude.{sum, sum_by, Some, Result, Ok, Err}
use Rattle.ciborium_ll_io.specs.declared.io.Read.{Ghosts as Reader}
use Rattle.ciborium_ll_io.specs.declared.io.Write.{Ghosts as Writer}
use Rattle.ciborium_ll_decoder.specs.declared.dec.Error.{Error}
use Rattle.ciborium_ll_decoder.specs.declared.dec.Error.TheVariants as e
use Rattle.ciborium_ll_decoder.specs.declared.copy.RecodeError.{RecodeError}
use Rattle.ciborium_ll_decoder.specs.declared.copy.RecodeError.TheVariants as r
use Rattle.ciborium_ll.specs.declared.laws.drains.Drained.{Drained}
use Rattle.ciborium_ll.specs.declared.laws.drains.End.{End}
use Rattle.ciborium_ll.specs.declared.laws.drains.End.TheVariants as end
use Rattle.ciborium_ll_decoder.specs.declared.seg.Parser.{Ghosts as Parser}
use Rattle.ciborium_ll_decoder.specs.declared.seg.Segment.{Segment}
use Rattle.ciborium_ll_grammar.specs.Strings.{Kind, Text, IsWritable, most_kept}
use Rattle.ciborium_ll_text.specs.Text.{IsCharacters}
use Rattle.ciborium_ll_decoder.specs.Kept.{kept_bytes}
use Rattle.ciborium_ll_decoder.specs.Decoding.{offset_limit, IsSteady, MovesOn, ReadsPast}
use Rattle.ciborium_ll_decoder.specs.Premises.{CanWrite}
use Rattle.ciborium_ll_io.specs.Writes.{WritesAll, WritesFront}
use Rattle.ciborium_ll_decoder.specs.Chunks.{GivesChunk, SegmentPullAnswer, SegmentEnds, left_of, rest}
use Rattle.ciborium_ll_decoder.specs.Chunks.{segment_decoder, segment_reference}

-- ---- sizes

-- The least number of bytes that calls with buffers of these sizes read. For text, up to three bytes of each size may
-- be kept bytes. Sizes of 4 and 8 gain 12 bytes, or 1 + 5 for text.
abbrev pub gains : Kind → List ℕ → ℕ
gains kind sizes = sum_by (λ size. size - most_kept kind) sizes

-- The number of calls with buffers of at least this size that read `bytes` bytes: `bytes` divided by the least gain of
-- a call, rounded up. A size of 4 needs 3 calls for 10 bytes, and 10 calls for a text of 10 bytes.
abbrev pub calls_for : Kind → ℕ → ℕ → ℕ
calls_for kind size bytes = let gain = size - most_kept kind in (bytes + gain - 1) / gain

-- The first `count` sizes, and not all sizes, are enough for `bytes` bytes. The first 2 of the sizes 4, 4 and 4 are
-- enough for 8 bytes, but for text only for 2.
pub record IsEnough (kind : Kind) (sizes : List ℕ) (bytes count : ℕ) : Type 0 where
  pub fewer : count < length sizes
  pub enough : bytes ≤ gains kind (take count sizes)

-- The first `count` sizes, and not all sizes, add up to at least `bytes`: for 8 bytes, the first 2 of the sizes 4, 4
-- and 4.
pub record AddUp (sizes : List ℕ) (bytes count : ℕ) : Type 0 where
  pub fewer : count < length sizes
  pub enough : bytes ≤ sum (take count sizes)

-- ---- over any reader and writer

module _ {R E P W F : Type 0} {parser : Parser P} (source : Reader R E) (sink : Writer W F) where
  -- For each of these sizes in turn, a call gave a chunk, as `pull` does with a buffer of that size. The whole chunk
  -- was written. Sizes of 2 and 2 give the chunks `01 02` and `03` of the body `01 02 03`.
  pub data DrainsEach : List ℕ → Segment R P parser → W → Segment R P parser → W → Type 0 where
    none : {segment : Segment R P parser} {writer : W} → DrainsEach [] segment writer segment writer
    more : {sizes : List ℕ} {size : ℕ} {chunk : List ℕ} {old between new : Segment R P parser} {writer now writer' : W}
        → DrainsEach sizes old writer between now → GivesChunk source size between chunk new
        → MovesOn source (segment_decoder between) (segment_decoder new) → WritesAll sink now chunk writer'
        → DrainsEach (sizes ++ size ∷ []) old writer new writer'

  -- The sizes are the sizes used so far, the next size, and others. If 4 of the sizes 4, 2 and 8 was used, 2 is next.
  pub record DrainsUpTo (sizes : List ℕ) (old : Segment R P parser) (writer : W) (size : ℕ) (new : Segment R P parser)
      (writer' : W) : Type 0 where
    pub before : List ℕ
    pub others : List ℕ
    pub parts : sizes ≡ before ++ size ∷ others
    pub each : DrainsEach before old writer new writer'

  -- The call with the next size found that the body had ended. A body of 8 bytes and the sizes 4, 4 and 4 take 3 calls.
  pub record DrainsAll (sizes : List ℕ) (old : Segment R P parser) (writer : W) (calls : ℕ)
      (new : Segment R P parser) (writer' : W) : Type 0 where
    pub size : ℕ
    pub between : Segment R P parser
    pub comes : DrainsUpTo sizes old writer size between writer'
    pub counted : calls ≡ length comes.before + 1
    pub ends : SegmentEnds source between new

  -- Each size was used: 2 and 2, for example, in 2 calls.
  pub record DrainsSizes (sizes : List ℕ) (old : Segment R P parser) (writer : W) (calls : ℕ)
      (new : Segment R P parser) (writer' : W) : Type 0 where
    pub each : DrainsEach sizes old writer new writer'
    pub counted : calls ≡ length sizes

  -- The call with the next size failed. If only 2 of 4 bytes come, this is the second call with the sizes 2 and 2.
  pub record DrainFails (sizes : List ℕ) (old : Segment R P parser) (writer : W) (error : Error E)
      (new : Segment R P parser) (writer' : W) : Type 0 where
    pub size : ℕ
    pub between : Segment R P parser
    pub comes : DrainsUpTo sizes old writer size between writer'
    pub fails : SegmentPullAnswer source size between (Err error) new

  -- The call with the next size gave a chunk, and the write of it failed. With the sizes 2 and 2 and room for 3 bytes,
  -- this is the second chunk.
  pub record DrainUnwritten (sizes : List ℕ) (old : Segment R P parser) (writer : W) (new : Segment R P parser)
      (writer' : W) : Type 0 where
    pub size : ℕ
    pub between : Segment R P parser
    pub writer-between : W
    pub comes : DrainsUpTo sizes old writer size between writer-between
    pub chunk : List ℕ
    pub gives : GivesChunk source size between chunk new
    pub stopped : WritesFront sink writer-between chunk writer'

  -- The end of a drain without an error. A body of 2 bytes ends with `Ended` for the sizes 2 and 2, and with
  -- `OutOfSizes` for 2 alone.
  abbrev pub EndsDrain : List ℕ → Segment R P parser → W → ℕ → End → Segment R P parser → W → Type 0
  EndsDrain sizes old writer calls end.Ended new writer' = DrainsAll sizes old writer calls new writer'
  EndsDrain sizes old writer calls end.OutOfSizes new writer' = DrainsSizes sizes old writer calls new writer'

  -- The effect of `drain_bytes` and `drain_text`, by their answer. With the sizes 4 and 4, a body of 3 bytes takes 2
  -- calls.
  abbrev pub Drains : List ℕ → Segment R P parser → W → Result Drained (RecodeError E F) → Segment R P parser → W
      → Type 0
  Drains sizes old writer (Ok drained) new writer' = EndsDrain sizes old writer drained.calls drained.end new writer'
  Drains sizes old writer (Err (r.Read error)) new writer' = DrainFails sizes old writer error new writer'
  Drains sizes old writer (Err (r.Write fault)) new writer' = DrainUnwritten sizes old writer new writer'

  -- The effect of `drain_bytes` and `drain_text`, with the facts that both keep. The writer stays on its slice. A drain
  -- of the whole body `01 02` raises the offset by 2.
  pub record DrainsSegment (sizes : List ℕ) (old : Segment R P parser) (writer : W)
      (result : Result Drained (RecodeError E F)) (new : Segment R P parser) (writer' : W) : Type 0 where
    pub drains : Drains sizes old writer result new writer'
    pub moves_on : MovesOn source (segment_decoder old) (segment_decoder new)
    pub same_reference : segment_reference new ≡ segment_reference old
    pub target : sink.target writer' ≡ sink.target writer

  -- The sum of the calls of `DrainsEach`. The bytes kept before and the bytes read are the bytes given and the bytes
  -- kept after. The bytes given were written. One size of 4 over `61 62 63 c3 a9` reads 4 bytes, gives `61 62 63` and
  -- keeps `c3`.
  pub record DrainsSome (sizes : List ℕ) (old : Segment R P parser) (writer : W) (new : Segment R P parser)
      (writer' : W) : Type 0 where
    pub read : List ℕ
    pub given : List ℕ
    pub parts : kept_bytes old.kept ++ read ≡ given ++ kept_bytes new.kept
    pub sound : IsWritable parser.kind given
    pub written : WritesAll sink writer given writer'
    pub passed : ReadsPast source old.decoder.now read new.decoder.now
    pub unread : new.unread + length read ≡ old.unread
    pub place : new.place ≡ old.place
    pub damaged : new.damaged ≡ old.damaged
    -- No chunk is longer than its buffer.
    pub most : length given ≤ sum sizes
    -- Each size was used while the sizes before it had not brought the whole body.
    pub needed : (count : ℕ) → count < length sizes → gains parser.kind (take count sizes) < old.unread
    -- Each buffer was filled as far as the body reaches.
    pub least : (gains parser.kind sizes ≤ length read) ⊎ (new.unread ≡ 0)
    pub filled : All (λ size. size ≤ length (kept_bytes old.kept) + length read) sizes ⊎ (new.unread ≡ 0)

  -- ---- over bytes that are told, if no side fails by itself

  -- The body is told and whole, and no fault of it was found. The reader is steady, the offset fits, and the writer has
  -- room for the body. If 3 bytes of it are left and only `01 02` is ahead, the body is not whole.
  pub record IsDrainable (segment : Segment R P parser) (writer : W) (body written : List ℕ) : Type 0 where
    pub sound : segment.damaged ≡ false
    pub steady : IsSteady source segment.decoder.now
    pub body-told : rest source segment ≡ Some body
    pub whole : length body ≡ left_of segment
    pub fits : segment.decoder.now.offset + segment.unread < offset_limit
    pub can_write : CanWrite sink (λ room. length body ≤ room) writer written

  -- The whole body was written, as soon as the sizes were enough: `01 02 03` by 3 calls with the sizes 2, 2 and 2.
  pub record WritesBody (sizes body written : List ℕ) (calls : ℕ) (new : Segment R P parser) (writer' : W) : Type 0
    where
      pub sound : IsWritable parser.kind body
      pub output : sink.written writer' ≡ Some (written ++ body)
      pub left : rest source new ≡ Some []
      pub some_calls : 0 < calls
      pub no_more : calls ≤ length sizes
      pub needed : length body ≤ sum (take (calls - 1) sizes)
      pub soon : (count : ℕ) → IsEnough parser.kind sizes (length body) count → calls ≤ count + 1

  -- A beginning of the body was written and the rest is left, because the sizes were not enough. One size of 2 leaves
  -- `03` of the body `01 02 03`.
  pub record LeavesRest (sizes body written : List ℕ) (calls : ℕ) (old new : Segment R P parser) (writer' : W) :
      Type 0 where
    pub all_sizes : calls ≡ length sizes
    pub given : List ℕ
    pub behind : List ℕ
    pub parts : body ≡ given ++ behind
    pub sound : IsWritable parser.kind given
    pub output : sink.written writer' ≡ Some (written ++ given)
    pub left : rest source new ≡ Some behind
    pub least : (gains parser.kind sizes + new.unread ≤ old.unread) ⊎ (new.unread ≡ 0)
    pub too_few : (count : ℕ) → IsEnough parser.kind sizes (length body) count → ⊥

  -- The body is no text, and a beginning of it that is text was written: nothing or `61` of the body `61 ff`.
  pub record FindsNoText (body written : List ℕ) (at : ℕ) (old : Segment R P parser) (writer' : W) : Type 0 where
    pub textual : parser.kind ≡ Text
    pub no_text : IsCharacters body → ⊥
    pub place : at ≡ old.place
    pub given : List ℕ
    pub behind : List ℕ
    pub parts : body ≡ given ++ behind
    pub sound : IsCharacters given
    pub output : sink.written writer' ≡ Some (written ++ given)

  -- The end of a drain without an error. The body `01` ends with `Ended` for the sizes 1 and 1, and with `OutOfSizes`
  -- for 1 alone.
  abbrev pub EndsTold : List ℕ → List ℕ → List ℕ → Segment R P parser → ℕ → End → Segment R P parser → W → Type 0
  EndsTold sizes body written old calls end.Ended new writer' = WritesBody sizes body written calls new writer'
  EndsTold sizes body written old calls end.OutOfSizes new writer' = LeavesRest sizes body written calls old new writer'

  -- The effect of a drain over such bytes: the body is written, or the sizes are not enough, or the body is no text.
  -- The sizes 4 and 4 find that `61 ff` is no text.
  abbrev pub DrainsTold : List ℕ → List ℕ → List ℕ → Segment R P parser → Result Drained (RecodeError E F)
      → Segment R P parser → W → Type 0
  DrainsTold sizes body written old (Ok drained) new writer' =
      EndsTold sizes body written old drained.calls drained.end new writer'
  DrainsTold sizes body written old (Err (r.Read (e.Syntax at))) new writer' = FindsNoText body written at old writer'
  DrainsTold sizes body written old (Err (r.Read (e.Io fault))) new writer' = ⊥
  DrainsTold sizes body written old (Err (r.Read e.TooLong)) new writer' = ⊥
  DrainsTold sizes body written old (Err (r.Read e.Waiting)) new writer' = ⊥
  DrainsTold sizes body written old (Err (r.Write fault)) new writer' = ⊥

-- The answer says that the body has ended. `Ok` with 3 calls and `Ended` says so, and with `OutOfSizes` it does not.
abbrev pub SaysEnded : {E F : Type 0} → Result Drained (RecodeError E F) → Type 0
SaysEnded (Ok drained) = drained.end ≡ end.Ended
SaysEnded (Err error) = ⊥
