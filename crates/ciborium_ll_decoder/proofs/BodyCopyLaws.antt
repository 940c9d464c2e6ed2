-- The copy of a body, chunk by chunk.
use Rattle.std.proofs.Common.{min, ◌+◌, ◌-◌, ◌<◌, ◌≡◌, ℕ, ◌≤◌, List, length, Result, Ok, Err, ap, arith, append_assoc}
use Rattle.std.proofs.Common.{append-nil, length-append}
use Rattle.std.proofs.KnownBytes.{Appends-nil}
use Rattle.std.specs.Result.{IsErrAnd, MatchResult}
use Rattle.ciborium_ll_io.specs.declared.io.Read.{Ghosts as Reader}
use Rattle.ciborium_ll_io.specs.declared.io.Write.{Ghosts as Writer}
use Rattle.ciborium_ll_decoder.specs.declared.dec.Error.{Error}
use Rattle.ciborium_ll_decoder.specs.declared.copy.RecodeError.{RecodeError}
use Rattle.ciborium_ll_decoder.specs.declared.copy.RecodeError.TheVariants as r
use Rattle.ciborium_ll_decoder.specs.declared.seg.Body.{Body}
use Rattle.ciborium_ll_decoder.specs.declared.seg.Parser.{Ghosts as Parser}
use Rattle.ciborium_ll_decoder.specs.declared.seg.Segment.{Segment}
use Rattle.ciborium_ll_decoder.specs.Kept.{kept_bytes}
use Rattle.ciborium_ll_decoder.specs.Decoding.{IsSteady}
use Rattle.ciborium_ll_io.specs.Writes.{WritesAll, WritesFront}
use Rattle.ciborium_ll_decoder.specs.Chunks.{IsWhole, GivesChunk, SegmentEnds, SegmentPullAnswer}
use Rattle.ciborium_ll_decoder.specs.BodyCopies.{BodyWritten, BodyUnwritten, CopiesBody, sides}
use Rattle.ciborium_ll_decoder.proofs.BodyLaws.{few_kept, split_parts, three_kept}
use Rattle.ciborium_ll_decoder.proofs.FinishLaws.{RestSoFar, rest_start, rest_chunk, rest_ends}
use Rattle.ciborium_ll_io.proofs.WriteLaws.{Shrinks-zero, WritesBytes-then}

-- The write failed if the answer, which hands on the result of the write, is an error. The error is that of the writer.
pub write_refused : {E F : Type 0} (wrote : Result (Unit {0}) F) (answer : Result (Unit {0}) (RecodeError E F))
    (error : RecodeError E F) → answer ≡ Err error
    → MatchResult wrote (λ done. answer ≡ Ok done) (λ fault. IsErrAnd answer (λ error. error ≡ r.Write fault))
    → (fault : F) × (wrote ≡ Err fault) × (error ≡ r.Write fault)
write_refused wrote answer error is cases = grind arith

module _ {R E P W F : Type 0} {parser : Parser P} (source : Reader R E) (sink : Writer W F) where
  -- The copy has written all chunks of the body so far.
  pub record BodySoFar (first : Segment R P parser) (writer : W) (segment : Segment R P parser) (writer' : W) : Type 0
    where
      pub rest : RestSoFar source first segment
      pub written : WritesAll sink writer rest.front writer'

  pub so_far_start : (segment : Segment R P parser) (writer : W) → BodySoFar segment writer segment writer
  so_far_start segment writer =
      record { rest = rest_start source segment; written = search (Appends-nil, Shrinks-zero) }

  module _ (first segment : Segment R P parser) (writer now : W) (so_far : BodySoFar first writer segment now) where
    pub so_far_chunk : (room : ℕ) (chunk : List ℕ) (new : Segment R P parser) (writer' : W)
        (gives : GivesChunk source room segment chunk new)
        → (IsSteady source segment.decoder.now → IsSteady source new.decoder.now) → WritesAll sink now chunk writer'
        → BodySoFar first writer new writer'
    so_far_chunk room chunk new writer' gives steady written = record {
      rest = rest_chunk source first segment so_far.rest room chunk new gives steady;
      written = WritesBytes-then sink {T = Unit {0}} writer now writer' (Ok (tt {0})) so_far.rest.front chunk
          so_far.written written;
    }

  module _ (body : Body) (first segment : Segment R P parser) (writer now : W) (whole : IsWhole body first)
      (so_far : BodySoFar first writer segment now) where
    pub so_far_unwritten : (room : ℕ) (chunk : List ℕ) (new : Segment R P parser) (writer' : W)
        (gives : GivesChunk source room segment chunk new) → 4 ≤ room
        → (IsSteady source segment.decoder.now → IsSteady source new.decoder.now) → WritesFront sink now chunk writer'
        → BodyUnwritten source sink parser.kind body.length room (sides first.decoder.now writer)
        (sides new.decoder.now writer')
    so_far_unwritten room chunk new writer' gives four steady stopped =
        let more = rest_chunk source first segment so_far.rest room chunk new gives steady in
        let before = ap length (rw whole.kept at so_far.rest.parts) in
        let split = ap length (split_parts parser.kind _ chunk _ gives.split) in
        let passed = rw (rw (whole.kept, append_assoc) at more.parts) at more.passed in
        let within : length so_far.rest.front < body.length =
        omega (arith, before, whole.unread, length-append {A = ℕ}) in
        let filled : length chunk + length (kept_bytes new.kept) ≡ min room (body.length - length so_far.rest.front) =
        omega (arith, before, split, whole.unread, three_kept segment.kept, length-append {A = ℕ}) in
        search few_kept

    -- If the segment ends, the whole body was read and written.
    pub so_far_whole : (new : Segment R P parser) → SegmentEnds source segment new
        → BodyWritten source sink parser.kind body.length (sides first.decoder.now writer) (sides new.decoder.now now)
    so_far_whole new ends =
        let parts = rw (whole.kept, ends.none_kept, append-nil) at so_far.rest.parts in
        let passed = rw (parts, ← ends.decoder) at so_far.rest.passed in
        let all : length so_far.rest.front ≡ body.length =
        omega (arith, ap length parts, so_far.rest.counted, whole.unread, ends.none_unread) in
        record { ends = search; written = so_far.written }

    -- If a pull fails, the copy ends with its error.
    pub so_far_error : (room : ℕ) (error : Error E) (new : Segment R P parser) → 4 ≤ room
        → (IsSteady source segment.decoder.now → IsSteady source new.decoder.now)
        → SegmentPullAnswer source room segment (Err error) new → CopiesBody source sink parser.kind body.length room
        body.place (sides first.decoder.now writer) (Err (r.Read error)) (sides new.decoder.now now)
    so_far_error room error new four steady pulled =
        let stopped = rw (whole.kept, whole.unread, whole.place) at (rest_ends source first segment so_far.rest room new
        steady error four whole.sound pulled) in
        record { ends = stopped.0; written = rw stopped.1 so_far.written }
