-- The calls on a segment, which gives its body chunk by chunk.
use Rattle.std.specs.Prelude.{◌≡◌, ℕ, ◌+◌, ◌-◌, ◌<◌, ◌≤◌, ◌⊎◌, min, true, false, List, [], ◌++◌, length, take}
use Rattle.std.specs.Prelude.{Option, Some, None, Result, Ok, Err, IfOk, IfSome}
use Rattle.std.specs.Borrow.{Bor, GName}
use Rattle.std.specs.Io.KnownBytes.{Consumes, prepend_known}
use Rattle.std.specs.Option.{option_map}
use Rattle.ciborium_ll_io.specs.declared.io.Read.{Ghosts}
use Rattle.ciborium_ll_decoder.specs.declared.dec.Decoder.{Decoder}
use Rattle.ciborium_ll_decoder.specs.declared.dec.Error.{Error}
use Rattle.ciborium_ll_decoder.specs.declared.dec.Error.TheVariants as e
use Rattle.ciborium_ll_decoder.specs.declared.seg.Body.{Body}
use Rattle.ciborium_ll_decoder.specs.declared.seg.Parser.{Ghosts as Parser}
use Rattle.ciborium_ll_decoder.specs.declared.seg.Progress.{Progress}
use Rattle.ciborium_ll_decoder.specs.declared.seg.Segment.{Segment}
use Rattle.ciborium_ll_grammar.specs.declared.spelling.Spelling.{Spelling}
use Rattle.ciborium_ll_grammar.specs.Strings.{Kind, Bytes, Text}
use Rattle.ciborium_ll_text.specs.Text.{IsFront}
use Rattle.ciborium_ll_decoder.specs.Decoding.{offset_limit, MovesOn, ReadsAll, ReadFails, IsUntouched, offset_of}
use Rattle.ciborium_ll_decoder.specs.Kept.{kept_bytes}
use Rattle.ciborium_ll_decoder.specs.Progress.{opens_of}
use Rattle.ciborium_ll_decoder.specs.Segments.{AdvancesTo}

-- A segment hands out the front of the bytes, and keeps the rest. The front of a text is the longest front that is
-- text. A byte string has no rest. For example, `61 c3` of a text has the front `61` and the rest `c3`.
abbrev pub IsSplit : Kind → List ℕ → List ℕ → List ℕ → Type 0
IsSplit Bytes bytes front rest = (front ≡ bytes) × (rest ≡ [])
IsSplit Text bytes front rest = IsFront bytes front rest

-- ---- what a segment is to its callers

module _ {R P : Type 0} {parser : Parser P} where
  -- The decoder that the segment holds: at offset 1 after the title `42` at offset 0.
  abbrev pub segment_decoder : Segment R P parser → Decoder R
  segment_decoder s = s.decoder.now

  -- The reference by which the segment holds its decoder. It is the same before and after a chunk `01`.
  abbrev pub segment_reference : Segment R P parser → GName
  segment_reference s = s.decoder.ghost_name

  -- How many bytes of the body were not handed out: the unread and the kept bytes. With one byte kept and 9 unread
  -- these are 10.
  abbrev pub left_of : Segment R P parser → ℕ
  left_of s = s.unread + length (kept_bytes s.kept)

  -- Nothing of the body was read: after the title `42`, 2 bytes are unread.
  pub record IsWhole (body : Body) (s : Segment R P parser) : Type 0 where
    pub unread : s.unread ≡ body.length
    pub place : s.place ≡ body.place
    pub kept : kept_bytes s.kept ≡ []
    pub sound : s.damaged ≡ false

  -- The segment is as it was, except for its decoder. If 2 bytes were unread, 2 still are.
  pub record KeepsSegment (old new : Segment R P parser) : Type 0 where
    pub unread : new.unread ≡ old.unread
    pub place : new.place ≡ old.place
    pub kept : new.kept ≡ old.kept
    pub damaged : new.damaged ≡ old.damaged

  -- How many bytes are read into `room` bytes. The kept bytes come first, and then as many unread bytes as there are
  -- and as fit. With room for 4 bytes, one kept and 9 unread, 3 bytes are read.
  abbrev pub read_count : ℕ → Segment R P parser → ℕ
  read_count room s = let size = min room (left_of s) in size - min size (length (kept_bytes s.kept))

module _ {R E : Type 0} (source : Ghosts R E) where
  -- A read into a slice, after the bytes `front` at its beginning. After the front `c3` a read of `a9` fills the slice
  -- with `c3 a9`.
  pub record ReadsBehind (front : List ℕ) (old : Decoder R) (filled : List ℕ) (new : Decoder R) : Type 0 where
    pub read : List ℕ
    pub reads : ReadsAll source old read new
    pub whole : filled ≡ front ++ read

  -- The read of bytes after a front, up to the end of a slice, by its answer. After the front `c3` in a slice of 3
  -- bytes, it is a read of 2 bytes.
  abbrev pub FillsBehind : List ℕ → Decoder R → Result (Unit {0}) (Error E) → List ℕ → Decoder R → Type 0
  FillsBehind front old (Ok done) filled new = ReadsBehind front old filled new
  FillsBehind front old (Err (e.Io fault)) filled new = ReadFails source old (length filled - length front) new
  FillsBehind front old (Err e.TooLong) filled new = (offset_limit ≤ old.offset + (length filled - length front))
      × IsUntouched old new
  FillsBehind front old (Err (e.Syntax place)) filled new = ⊥
  FillsBehind front old (Err e.Waiting) filled new = ⊥

module _ {R E P : Type 0} {parser : Parser P} (source : Ghosts R E) where
  -- The bytes that are to come of the body: the kept bytes, and then as many unread bytes as the reader tells. If `c3`
  -- is kept, 2 bytes are unread and `a9 61 62` are ahead, these are `c3 a9 61`.
  abbrev pub rest : Segment R P parser → Option (List ℕ)
  rest s = prepend_known (kept_bytes s.kept) (option_map (take s.unread) (source.ahead s.decoder.now.reader))

  -- The body has ended: no byte was unread or kept, and nothing changed. The body of `42 01 02` has ended after the
  -- chunk `01 02`.
  pub record SegmentEnds (old new : Segment R P parser) : Type 0 where
    pub none_unread : old.unread ≡ 0
    pub none_kept : kept_bytes old.kept ≡ []
    pub sound : old.damaged ≡ false
    pub same : KeepsSegment old new
    pub decoder : new.decoder.now ≡ old.decoder.now

  -- A read of `read_count` bytes: of 2, for example, with room for 4 bytes, none kept and 2 unread.
  pub record ReadsOn (room : ℕ) (old : Segment R P parser) (read : List ℕ) (new : Segment R P parser) : Type 0 where
    pub some_unread : 0 < old.unread
    pub sound : old.damaged ≡ false
    pub count : length read ≡ read_count room old
    pub reads : ReadsAll source old.decoder.now read new.decoder.now
    pub unread : new.unread + length read ≡ old.unread
    pub place : new.place ≡ old.place

  -- The segment hands out a chunk of the kept bytes and the bytes that were read, and keeps the rest of them. If a text
  -- keeps `c3` and reads `a9 e2`, the chunk is `c3 a9`, and the segment keeps `e2`.
  pub record GivesChunk (room : ℕ) (old : Segment R P parser) (chunk : List ℕ) (new : Segment R P parser) : Type 0 where
    pub read : List ℕ
    pub reads : ReadsOn room old read new
    pub split : IsSplit parser.kind (kept_bytes old.kept ++ read) chunk (kept_bytes new.kept)
    pub still_sound : new.damaged ≡ false

  -- Bytes were kept, and the body has ended. The text body `61 c3` ends so.
  pub record EndsInCharacter (old new : Segment R P parser) : Type 0 where
    pub none_unread : old.unread ≡ 0
    pub some_kept : 0 < length (kept_bytes old.kept)
    pub sound : old.damaged ≡ false
    pub unread : new.unread ≡ old.unread
    pub decoder : new.decoder.now ≡ old.decoder.now

  -- The segment would have to keep more than three bytes. After a read of `ff 61 62 63` a text would have to keep all
  -- four.
  pub record KeepsTooMuch (room : ℕ) (old new : Segment R P parser) : Type 0 where
    pub read : List ℕ
    pub reads : ReadsOn room old read new
    pub front : List ℕ
    pub left : List ℕ
    pub split : IsSplit parser.kind (kept_bytes old.kept ++ read) front left
    pub too_much : 3 < length left

  -- The damage was found before: in the text body `ff 61 62 63`, for example, by a call into 4 bytes.
  pub record StaysDamaged (old new : Segment R P parser) : Type 0 where
    pub damaged-before : old.damaged ≡ true
    pub same : KeepsSegment old new
    pub decoder : new.decoder.now ≡ old.decoder.now

  -- The body is no text: it was damaged before, or bytes are kept at its end, or more than three bytes would have to be
  -- kept. The place is the segment's. If the damage is new, nothing is kept after it. At its end the text body `61 c3`
  -- is damaged.
  pub record FindsDamage (room : ℕ) (old : Segment R P parser) (at : ℕ) (new : Segment R P parser) : Type 0 where
    pub place : at ≡ old.place
    pub same_place : new.place ≡ old.place
    pub damaged : new.damaged ≡ true
    pub cause : StaysDamaged old new ⊎ (EndsInCharacter old new ⊎ KeepsTooMuch room old new)
    pub none_kept : StaysDamaged old new ⊎ (kept_bytes new.kept ≡ [])

  -- The reader failed, and the segment is as it was: if only 1 of 2 unread bytes comes, 2 are still unread.
  pub record ChunkFails (room : ℕ) (old new : Segment R P parser) : Type 0 where
    pub some_unread : 0 < old.unread
    pub sound : old.damaged ≡ false
    pub fails : ReadFails source old.decoder.now (read_count room old) new.decoder.now
    pub same : KeepsSegment old new

  -- The offset can't take the read, and the segment is as it was. At the offset 2^64 - 2 it can't take 2 bytes.
  pub record ChunkPasses (room : ℕ) (old new : Segment R P parser) : Type 0 where
    pub some_unread : 0 < old.unread
    pub sound : old.damaged ≡ false
    pub full : offset_limit ≤ old.decoder.now.offset + read_count room old
    pub untouched : IsUntouched old.decoder.now new.decoder.now
    pub same : KeepsSegment old new

  -- `pull` of a segment into `room` bytes, by its answer. With a `room` of 1, the byte string `42 01 02` gives the
  -- chunks `01` and `02`.
  abbrev pub SegmentPullAnswer : ℕ → Segment R P parser → Result (Option (Bor (List ℕ))) (Error E) → Segment R P parser
      → Type 0
  SegmentPullAnswer room old (Ok None) new = SegmentEnds old new
  SegmentPullAnswer room old (Ok (Some chunk)) new = GivesChunk room old chunk.now new
  SegmentPullAnswer room old (Err (e.Io fault)) new = ChunkFails room old new
  SegmentPullAnswer room old (Err (e.Syntax place)) new = FindsDamage room old place new
  SegmentPullAnswer room old (Err e.TooLong) new = ChunkPasses room old new
  SegmentPullAnswer room old (Err e.Waiting) new = ⊥

  -- `pull` of a segment, and the facts that it keeps. The bytes that were to come of the body are the chunk and then
  -- the bytes that are still to come. After the chunk `01` of the body `01 02`, `02` is still to come.
  pub record SegmentPull (room : ℕ) (old : Segment R P parser) (result : Result (Option (Bor (List ℕ))) (Error E))
      (new : Segment R P parser) : Type 0 where
    pub chunk : SegmentPullAnswer room old result new
    pub left : IfOk result (λ chunk. IfSome chunk (λ c. length c.now + left_of new ≡ left_of old))
    pub rest_due : IfOk result (λ chunk. IfSome chunk (λ c. Consumes (rest old) (rest new) c.now))
    pub same_reference : segment_reference new ≡ segment_reference old
    pub moves_on : MovesOn source (segment_decoder old) (segment_decoder new)

module _ {R E : Type 0} (source : Ghosts R E) (kind : Kind) (allowed : Spelling) where
  -- `advance` gave this answer and left this decoder. The offset rose by at least one for each further open. Over
  -- `5f 41` it rose by 2, for one open.
  pub record GoesOnTo (progress : Progress) (old : Decoder R) (result : Result (Option Body) (Error E))
      (new : Decoder R) : Type 0 where
    pub after : Progress
    pub advanced : AdvancesTo source kind allowed progress old result after new
    pub opens : opens_of after + offset_of old ≤ opens_of progress + offset_of new
    pub moves_on : MovesOn source old new

module _ {R E P : Type 0} {parser : Parser P} (source : Ghosts R E) (kind : Kind) (allowed : Spelling) where
  -- The segment is whole, and holds the decoder as `advance` left it: after `42`, with 2 bytes unread.
  pub record LendsWhole (progress : Progress) (old : Decoder R) (segment : Segment R P parser) : Type 0 where
    pub body : Body
    pub goes_on : GoesOnTo source kind allowed progress old (Ok (Some body)) segment.decoder.now
    pub whole : IsWhole body segment

  -- `pull` of a string answers as `advance` does, with a whole segment in place of a body: over `42`, with one of 2
  -- bytes.
  abbrev pub SegmentsPull : Progress → Decoder R → Result (Option (Segment R P parser)) (Error E) → Type 0
  SegmentsPull progress old (Ok (Some segment)) = LendsWhole progress old segment
  SegmentsPull progress old (Ok None) = (new : Decoder R) × GoesOnTo source kind allowed progress old (Ok None) new
  SegmentsPull progress old (Err error) = (new : Decoder R) × GoesOnTo source kind allowed progress old (Err error) new
