-- The bytes that a segment keeps.
use Rattle.std.proofs.Common.{[], ◌≡◌, ℕ, ◌+◌, ◌<◌, ◌≤◌, min, false, List, ◌++◌, length, take, Option, Some, None, ◌-◌}
use Rattle.std.proofs.Common.{arith, append_assoc, length-append, Result, Ok, Err}
use Rattle.std.proofs.Math.Seq.{take-append-add}
use Rattle.std.specs.Io.KnownBytes.{Consumes, prepend_known}
use Rattle.std.specs.Option.{option_map}
use Rattle.ciborium_ll_io.specs.declared.io.Read.{Ghosts}
use Rattle.ciborium_ll_decoder.specs.declared.seg.Parser.{Ghosts as Parser}
use Rattle.ciborium_ll_decoder.specs.declared.seg.Segment.{Segment}
use Rattle.ciborium_ll_decoder.specs.Kept.{kept_bytes}
use Rattle.std.specs.Borrow.{Bor}
use Rattle.ciborium_ll_decoder.specs.declared.dec.Error.{Error}
use Rattle.ciborium_ll_decoder.specs.Chunks.{FillsBehind, GivesChunk, SegmentPull, KeepsSegment, SegmentPullAnswer, ReadsOn, left_of}
use Rattle.ciborium_ll_decoder.specs.Chunks.{rest, segment_reference}
use Rattle.ciborium_ll_decoder.proofs.BodyLaws.{split_parts}
use Rattle.ciborium_ll_decoder.specs.Decoding.{MovesOn, ReadsAll, ReadsBytes}

-- ---- a pull of a segment: `count` bytes are kept, and the kept and new bytes fill `size` bytes

module _ {R E P : Type 0} {parser : Parser P} (source : Ghosts R E) (room size count : ℕ)
    (segment new : Segment R P parser) (some : segment.unread ≡ 0 → ⊥) (sound : segment.damaged ≡ false)
    (kept : count ≡ length (kept_bytes segment.kept)) (least : size ≡ min room (segment.unread + count)) where
  -- If the buffer holds no more than the kept bytes, the pull reads nothing.
  pub ReadsOn-none : size ≤ count → KeepsSegment segment new → ReadsAll source segment.decoder.now [] new.decoder.now
      → ReadsOn source room segment [] new
  ReadsOn-none short same reads = grind arith

  -- If that read of nothing fails, the pull answers with its error.
  pub none_stopped : (answer : Result (Option (Bor (List ℕ))) (Error E)) (error : Error E) → answer ≡ Err error
      → size ≤ count → KeepsSegment segment new → ReadsBytes source segment.decoder.now (Err error) [] new.decoder.now
      → SegmentPullAnswer source room segment answer new
  none_stopped answer error is short same fails = grind arith

  module _ (filled : List ℕ) (more : count < size) (fills : length filled ≡ size) where
    -- If the buffer holds more than the kept bytes, the pull fills the rest of it.
    pub ReadsOn-behind : (read : List ℕ) → filled ≡ kept_bytes segment.kept ++ read
        → ReadsAll source segment.decoder.now read new.decoder.now → new.unread ≡ segment.unread - (size - count)
        → new.place ≡ segment.place → ReadsOn source room segment read new
    ReadsOn-behind read whole reads unread place = grind (arith, length-append {A = ℕ})

    -- If the read after the kept bytes fails, the pull answers with its error.
    pub fill_stopped : (answer : Result (Option (Bor (List ℕ))) (Error E)) (error : Error E) → answer ≡ Err error
        → KeepsSegment segment new
        → FillsBehind source (kept_bytes segment.kept) segment.decoder.now (Err error) filled new.decoder.now
        → SegmentPullAnswer source room segment answer new
    fill_stopped answer error is same fails = grind arith

-- ---- a chunk

-- The bytes that were to come of a body are the chunk, and then the bytes that are still to come.
rest_consumed : (ahead ahead' : Option (List ℕ)) (unread unread' : ℕ) (kept kept' read chunk : List ℕ)
    → Consumes ahead ahead' read → unread' + length read ≡ unread
    → kept ++ read ≡ chunk ++ kept'
    → Consumes (prepend_known kept (option_map (take unread) ahead))
    (prepend_known kept' (option_map (take unread') ahead')) chunk
rest_consumed None ahead' unread unread' kept kept' read chunk c e p = tt
rest_consumed (Some xs) None unread unread' kept kept' read chunk c e p = absurd c
rest_consumed (Some xs) (Some ys) unread unread' kept kept' read chunk c e p =
    let counted : unread ≡ length read + unread' = omega arith in
    rw (c, counted, take-append-add read ys unread', ← append_assoc kept read (take unread' ys), p)
    (append_assoc chunk kept' (take unread' ys))

module _ {R E P : Type 0} {parser : Parser P} (source : Ghosts R E) where
  -- The lengths of a chunk and of the bytes that are left after it add up to the number of bytes that were left.
  pub chunk_left : (room : ℕ) (segment new : Segment R P parser) (chunk : List ℕ)
      → GivesChunk source room segment chunk new → length chunk + left_of new ≡ left_of segment
  chunk_left room segment new chunk gives =
      let parts = split_parts parser.kind _ chunk _ gives.split in grind (arith, length-append {A = ℕ})

  -- A pull consumes exactly its chunk of the bytes that are to come of the body.
  pub chunk_consumed : (room : ℕ) (segment new : Segment R P parser) (chunk : List ℕ)
      → GivesChunk source room segment chunk new → Consumes (rest source segment) (rest source new) chunk
  chunk_consumed room segment new chunk gives = grind (arith, rest_consumed, split_parts)

  -- A pull that gives a chunk meets the contract of `pull`.
  pub chunk_pulled : (room : ℕ) (segment new : Segment R P parser) (chunk : Bor (List ℕ))
      → GivesChunk source room segment chunk.now new → segment_reference new ≡ segment_reference segment
      → MovesOn source segment.decoder.now new.decoder.now → SegmentPull source room segment (Ok (Some chunk)) new
  chunk_pulled room segment new chunk gives same moves_on =
      let left = chunk_left room segment new chunk.now gives in
      let rest_due = chunk_consumed room segment new chunk.now gives in
      assumption
