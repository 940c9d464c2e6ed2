-- The rest of a body, read chunk by chunk.
use Rattle.std.proofs.Common.{[], ◌≡◌, ℕ, Bool, ◌+◌, ◌≤◌, true, false, List, ◌++◌, length, Option, Ok, Err, refl, sym}
use Rattle.std.proofs.Common.{◌∙◌, inr, arith, append_assoc, append-nil, length-append}
use Rattle.std.specs.Borrow.{Bor}
use Rattle.std.specs.Option.{is_some}
use Rattle.ciborium_ll_io.specs.declared.io.Read.{Ghosts as Reader}
use Rattle.ciborium_ll_decoder.specs.declared.dec.Error.{Error}
use Rattle.ciborium_ll_decoder.specs.declared.seg.Parser.{Ghosts as Parser}
use Rattle.ciborium_ll_decoder.specs.declared.seg.Segment.{Segment}
use Rattle.ciborium_ll_grammar.specs.Strings.{Text, IsWritable}
use Rattle.ciborium_ll_decoder.specs.Kept.{kept_bytes}
use Rattle.ciborium_ll_decoder.specs.Decoding.{IsSteady, ReadsPast}
use Rattle.ciborium_ll_decoder.specs.Chunks.{GivesChunk, EndsInCharacter, KeepsTooMuch, SegmentPullAnswer, read_count}
use Rattle.ciborium_ll_decoder.specs.Finishing.{GivesNoText, StopsReading, StopsRest, Finishes}
use Rattle.ciborium_ll_decoder.proofs.DecodingLaws.{ReadsPast-none}
use Rattle.ciborium_ll_decoder.proofs.BodyLaws.{split_parts, writable_nil, writable_chunk, three_kept, few_kept}
use Rattle.ciborium_ll_decoder.proofs.BodyLaws.{stuck_is_no_text, too_much_is_no_text, ReadsPast-read}

-- A segment is not both damaged and sound.
pub not_both : (damaged : Bool) → damaged ≡ true → damaged ≡ false → ⊥
not_both damaged one other = cc

module _ {R E P : Type 0} {parser : Parser P} (source : Reader R E) where
  -- These bytes were read of the rest of the first segment. The bytes after the chunks are kept.
  pub record RestSoFar (first segment : Segment R P parser) : Type 0 where
    pub read : List ℕ
    pub front : List ℕ
    pub parts : kept_bytes first.kept ++ read ≡ front ++ kept_bytes segment.kept
    pub sound : IsWritable parser.kind front
    pub counted : segment.unread + length read ≡ first.unread
    pub passed : ReadsPast source first.decoder.now read segment.decoder.now
    pub at : segment.place ≡ first.place
    pub damage : segment.damaged ≡ first.damaged
    pub still : segment.damaged ≡ true → segment.decoder.now ≡ first.decoder.now

  abbrev pub rest_start : (segment : Segment R P parser) → RestSoFar segment segment
  rest_start segment = record {
    read = [];
    front = [];
    parts = append-nil (kept_bytes segment.kept);
    sound = writable_nil parser.kind;
    counted = omega arith;
    passed = ReadsPast-none source segment.decoder.now;
    at = refl;
    damage = refl;
    still = λ damaged. refl;
  }

  module _ (first segment : Segment R P parser) (so_far : RestSoFar first segment) where
    abbrev pub rest_chunk : (room : ℕ) (chunk : List ℕ) (new : Segment R P parser)
        (gives : GivesChunk source room segment chunk new)
        → (IsSteady source segment.decoder.now → IsSteady source new.decoder.now) → RestSoFar first new
    rest_chunk room chunk new gives steady = record {
      read = so_far.read ++ gives.read;
      front = so_far.front ++ chunk;
      parts = rw (← append_assoc (kept_bytes first.kept) so_far.read gives.read, so_far.parts)
          (append_assoc so_far.front (kept_bytes segment.kept) gives.read
          ∙ rw (split_parts parser.kind _ _ _ gives.split)
          (sym (append_assoc so_far.front chunk (kept_bytes new.kept))));
      sound = writable_chunk parser.kind so_far.front _ chunk _ so_far.sound gives.split;
      counted = omega (arith, so_far.counted, gives.reads.unread, length-append so_far.read gives.read);
      passed = ReadsPast-read source first.decoder.now segment.decoder.now new.decoder.now so_far.read gives.read
          so_far.passed gives.reads.reads steady;
      at = gives.reads.place ∙ so_far.at;
      damage = gives.still_sound ∙ sym gives.reads.sound ∙ so_far.damage;
      still = λ damaged. absurd (not_both new.damaged damaged gives.still_sound);
    }

    module _ (room : ℕ) (new : Segment R P parser)
        (steady : IsSteady source segment.decoder.now → IsSteady source new.decoder.now) where
      -- `RestSoFar` also holds after a pull that gave a chunk.
      pub rest_pulled : (chunk : Option (Bor (List ℕ))) → SegmentPullAnswer source room segment (Ok chunk) new
          → is_some chunk ≡ true → RestSoFar first new
      rest_pulled chunk pulled some = grind (arith, rest_chunk)

      damaged_end : (count : ℕ) → count ≡ 0 → EndsInCharacter source segment new
          → GivesNoText source parser.kind (kept_bytes first.kept) first.unread so_far.read count segment.decoder.now
          new.decoder.now
      damaged_end count none ends =
          grind (arith, ReadsPast-none, length-append {A = ℕ}, stuck_is_no_text, append-nil {A = ℕ})

      damaged_middle : KeepsTooMuch source room segment new
          → GivesNoText source parser.kind (kept_bytes first.kept) first.unread so_far.read (read_count room segment)
          segment.decoder.now new.decoder.now
      damaged_middle keeps =
          let is : parser.kind ≡ Text = grind arith in
          let no_text = too_much_is_no_text (kept_bytes first.kept ++ (so_far.read ++ keeps.read)) so_far.front
          (kept_bytes segment.kept) keeps.read keeps.front keeps.left
          (rw (← append_assoc (kept_bytes first.kept) so_far.read keeps.read, so_far.parts)
          (append_assoc so_far.front (kept_bytes segment.kept) keeps.read)) (rw is at so_far.sound)
          (rw is at keeps.split) keeps.too_much in
          let passed = ReadsPast-read source segment.decoder.now segment.decoder.now new.decoder.now [] keeps.read
          (ReadsPast-none source segment.decoder.now) keeps.reads.reads steady in
          search inr

      -- A pull that fails is a read that stops the read of the body.
      stops_reading : (error : Error E) → 4 ≤ room → first.damaged ≡ false
          → SegmentPullAnswer source room segment (Err error) new
          → StopsReading source parser.kind (kept_bytes first.kept) first.unread so_far.read first.place
          (read_count room segment) segment.decoder.now error new.decoder.now
      stops_reading error four undamaged pulled = search (three_kept, damaged_end, damaged_middle, arith)

      -- If the body was sound before, the read that failed is the last one.
      pub rest_ends : (error : Error E) → 4 ≤ room → first.damaged ≡ false
          → SegmentPullAnswer source room segment (Err error) new
          → (stops : StopsRest source parser.kind (kept_bytes first.kept) first.unread room first.place
          first.decoder.now error new.decoder.now) × (stops.part.front ≡ so_far.front)
      rest_ends error four undamaged pulled = (
        record {
          between = segment.decoder.now;
          part = search (few_kept, arith);
          count = read_count room segment;
          filled = omega (arith, four, so_far.counted, three_kept segment.kept);
          stops = stops_reading error four undamaged pulled;
        },
        refl,
      )

      -- If a pull fails, `finish` answers with its error.
      pub rest_error : (error : Error E) → 4 ≤ room → SegmentPullAnswer source room segment (Err error) new
          → Finishes source room first (Err error) new.decoder.now
      rest_error error four fails = grind (arith, rest_ends)
