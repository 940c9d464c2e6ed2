-- Laws of a drain of a body, chunk by chunk: the sum of its calls.
use Rattle.std.proofs.Common.{◌≡◌, ℕ, ◌+◌, ◌<◌, ◌≤◌, ◌⊎◌, All, List, [], ◌∷◌, ◌++◌, length, take, drop, get_or, Ok}
use Rattle.std.proofs.Common.{refl, sym, ap, ◌∙◌, inl, inr, arith, append_assoc, append-nil, length-append}
use Rattle.std.proofs.Common.{length-take-le}
use Rattle.std.proofs.lemmas.Bool.{cases_lt}
use Rattle.std.proofs.Math.Seq.{take-append_seam}
use Rattle.std.proofs.lemmas.List.{drop_more, take-append-drop, take-append-le}
use Rattle.std.proofs.lemmas.List.Elements.{All-nil, All-push, All-weaker}
use Rattle.std.proofs.lemmas.List.Sums.{sum_by_push}
use Rattle.ciborium_ll_io.specs.declared.io.Read.{Ghosts as Reader}
use Rattle.ciborium_ll_io.specs.declared.io.Write.{Ghosts as Writer}
use Rattle.ciborium_ll_decoder.specs.declared.seg.Parser.{Ghosts as Parser}
use Rattle.ciborium_ll_decoder.specs.declared.seg.Segment.{Segment}
use Rattle.ciborium_ll_grammar.specs.Strings.{Kind, Bytes, Text}
use Rattle.ciborium_ll_decoder.specs.Kept.{kept_bytes}
use Rattle.ciborium_ll_decoder.specs.Decoding.{IsSteady}
use Rattle.ciborium_ll_io.specs.Writes.{WritesAll}
use Rattle.ciborium_ll_decoder.specs.Chunks.{IsSplit, GivesChunk, left_of}
use Rattle.ciborium_ll.specs.Drains.{DrainsEach, DrainsUpTo, DrainsSome, none, more}
use Rattle.ciborium_ll_decoder.proofs.DecodingLaws.{ReadsPast-none}
use Rattle.ciborium_ll_text.proofs.Lists.{length_zero}
use Rattle.ciborium_ll_io.proofs.WriteLaws.{WritesBytes-then}
use Rattle.ciborium_ll.proofs.PiecesWritten.{writes_nothing}
use Rattle.ciborium_ll_decoder.proofs.BodyLaws.{split_parts, writable_nil, writable_chunk, few_kept, ReadsPast-read}

-- A buffer that is as long as each of the sizes has a front of the size at `index`.
pub front_long : (sizes buffer buffer' : List ℕ) (index : ℕ) → All (λ size. size ≤ length buffer) sizes
    → length buffer' ≡ length buffer → index < length sizes
    → length (take (get_or sizes index 0) buffer') ≡ get_or sizes index 0
front_long sizes buffer buffer' index fit same less = grind (arith, length-take-le)

module _ {R E P W F : Type 0} {parser : Parser P} (source : Reader R E) (sink : Writer W F) where
  -- Each size so far brought a chunk, and the size at `index` is next.
  abbrev pub comes_at : {old new : Segment R P parser} {writer writer' : W} (sizes : List ℕ) (index d : ℕ)
      → index < length sizes → DrainsEach source sink (take index sizes) old writer new writer'
      → DrainsUpTo source sink sizes old writer (get_or sizes index d) new writer'
  comes_at sizes index d less each = record {
    before = take index sizes;
    others = drop (index + 1) sizes;
    parts = sym (take-append-drop index sizes)
        ∙ ap (λ (z : List ℕ). take index sizes ++ z) (drop_more sizes index d less);
    each = each;
  }

  drains_none : (segment : Segment R P parser) (writer : W) → DrainsSome source sink [] segment writer segment writer
  drains_none segment writer = record {
    read = [];
    given = [];
    parts = append-nil (kept_bytes segment.kept);
    sound = writable_nil parser.kind;
    written = writes_nothing sink writer;
    passed = ReadsPast-none source segment.decoder.now;
    unread = omega arith;
    place = refl;
    damaged = refl;
    most = omega arith;
    needed = λ count less. absurd (omega (arith, less));
    least = inl (omega arith);
    filled = inl (All-nil (λ (size : ℕ). size ≤ length (kept_bytes segment.kept) + 0));
  }

  module _ {sizes : List ℕ} {size : ℕ} {old between new : Segment R P parser} {writer now : W} {chunk : List ℕ}
      (some : DrainsSome source sink sizes old writer between now)
      (gives : GivesChunk source size between chunk new) where
    -- A chunk is no longer than its buffer.
    chunk_within : (kind : Kind) → parser.kind ≡ kind → IsSplit kind (kept_bytes between.kept ++ gives.read) chunk
        (kept_bytes new.kept) → length chunk ≤ size
    chunk_within Bytes is split = grind (arith, between.text_alone is, split, gives.reads.count, length-append)
    chunk_within Text is split =
        let kept = kept_bytes between.kept in
        let parts = ap length split.parts in
        -- If the kept bytes fill the buffer, the call reads nothing and gives none of the kept bytes.
        let none : length gives.read ≡ 0 → length chunk ≡ 0 = λ zero.
        let nothing = length_zero gives.read zero in
        ap length (between.stuck chunk _ (rw (nothing, append-nil kept) at split.parts) split.text) in
        grind (arith, none, parts, gives.reads.count, length-append)

    filled_more : All (λ (size : ℕ). size ≤ length (kept_bytes old.kept) + length (some.read ++ gives.read))
        (sizes ++ size ∷ []) ⊎ (new.unread ≡ 0)
    filled_more =
        let within = λ (n : ℕ). n ≤ length (kept_bytes old.kept) + length (some.read ++ gives.read) in
        let parts = ap length some.parts in
        elim some.filled [
          | inl filled ↦ elim (cases_lt (left_of between) size) [
            | inl less ↦ inr (omega (arith, less, gives.reads.count, gives.reads.unread))
            | inr full ↦ inl (All-push within sizes size (All-weaker
                (λ (n : ℕ). n ≤ length (kept_bytes old.kept) + length some.read) within
                (λ n less. omega (arith, less, length-append some.read gives.read)) sizes filled)
                (omega (arith, full, parts, gives.reads.count, length-append {A = ℕ})))
          ]
          | inr ended ↦ absurd (omega (arith, ended, gives.reads.some_unread))
        ]

    drains_more : {writer' : W} → (IsSteady source between.decoder.now → IsSteady source new.decoder.now)
        → WritesAll sink now chunk writer' → DrainsSome source sink (sizes ++ size ∷ []) old writer new writer'
    drains_more {writer'} steady written = record {
      read = some.read ++ gives.read;
      given = some.given ++ chunk;
      parts = grind (arith, append_assoc, split_parts, some.parts, gives.split);
      sound = writable_chunk parser.kind some.given _ chunk _ some.sound gives.split;
      written = WritesBytes-then sink {T = Unit {0}} writer now writer' (Ok (tt {0})) some.given chunk some.written
          written;
      passed = ReadsPast-read source old.decoder.now between.decoder.now new.decoder.now some.read gives.read
          some.passed gives.reads.reads steady;
      unread = omega (arith, some.unread, gives.reads.unread, length-append some.read gives.read);
      place = gives.reads.place ∙ some.place;
      damaged = gives.still_sound ∙ sym gives.reads.sound ∙ some.damaged;
      most =
          let within = chunk_within parser.kind refl gives.split in
          omega (arith, some.most, within, length-append some.given chunk, sum_by_push (λ (n : ℕ). n) sizes size);
      needed = λ count less. grind (
        arith,
        less,
        take-append-le,
        take-append_seam,
        length-append,
        some.needed,
        some.least,
        some.unread,
        gives.reads.some_unread,
      );
      least = grind (
        arith,
        few_kept,
        sum_by_push,
        length-append,
        some.least,
        gives.reads.count,
        gives.reads.unread,
        gives.reads.some_unread,
      );
      filled = filled_more;
    }

  pub each_some : {sizes : List ℕ} {old : Segment R P parser} {writer : W} {new : Segment R P parser} {writer' : W}
      → DrainsEach source sink sizes old writer new writer' → DrainsSome source sink sizes old writer new writer'
  each_some {old} {writer} none = drains_none old writer
  each_some (more each gives moves written) = drains_more (each_some each) gives moves.steady written
