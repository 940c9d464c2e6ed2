-- Byte strings that are read into the lent memory before they are shown.
use Rattle.std.proofs.Common.{◌≡◌, ℕ, ◌+◌, ◌-◌, true, List, [], ◌++◌, codes, length, Some, Result, Ok, Err}
use Rattle.std.proofs.Common.{refl, sym, ap, subst, arith, append_assoc}
use Rattle.ciborium_ll.specs.Types.Read.{Ghosts as Reader}
use Rattle.ciborium_ll.specs.Types.Write.{Ghosts as Writer}
use Rattle.ciborium_ll.specs.Types.Decoder.{Decoder}
use Rattle.ciborium_ll.specs.Types.Error.{Error}
use Rattle.ciborium_ll.specs.Types.Header.TheVariants as h
use Rattle.ciborium_ll.specs.Title.{title_len}
use Rattle.ciborium_ll.specs.Strings.{Bytes}
use Rattle.ciborium_ll.specs.Encoding.{WritesAll}
use Rattle.ciborium_ll.specs.Finishing.{ReadsRest, StopsRest}
use Rattle.ciborium_ll.specs.Skipping.{SkipsString, SkipsWhole}
use Rattle.ciborium_ll.specs.Sides.{Sides, sides}
use Rattle.cbor_skip.specs.declared.SkipError.TheVariants as s
use Rattle.cbor_diag.specs.declared.DiagError.{DiagError}
use Rattle.cbor_diag.specs.declared.DiagError.TheVariants as d
use Rattle.cbor_diag.specs.declared.layout.Line.{Line}
use Rattle.cbor_diag.specs.declared.marks.Mark.{Mark}
use Rattle.cbor_diag.specs.declared.strings.quotes.Quotes.TheVariants as q
use Rattle.cbor_diag.specs.HeldStops.{Inside, ShowsKept}
use Rattle.cbor_diag.specs.ItemStops.{RestStops, ShowsRest, held}
use Rattle.cbor_diag.specs.ItemTexts.{IsShown}
use Rattle.cbor_diag.specs.Marks.{mark_text}
use Rattle.cbor_diag.specs.Notation.{bytes_notation}
use Rattle.cbor_diag.specs.Places.{Place, is_held, place_of}
use Rattle.cbor_diag.specs.Showing.{OnString, said_of}
use Rattle.cbor_diag.specs.StringShows.{quoted_body}

-- A writer that had no bytes has the bytes that were written.
pub kept_all : {W F : Type 0} {sink : Writer W F} {old new : W} {bytes : List ℕ} → WritesAll sink old bytes new
    → sink.written old ≡ Some [] → sink.written new ≡ Some bytes
kept_all all empty = grind arith

-- A body in quotes and its mark, one after the other.
pub quoted_parts : (body : List ℕ) (mark : Mark) → quoted_body q.Hex body ++ mark_text mark
    ≡ codes "h'" ++ (bytes_notation body ++ (codes "'" ++ mark_text mark))
quoted_parts body mark = grind (arith, append_assoc)

-- A writer tells one list of bytes.
pub one_written : {told body kept : List ℕ} → Some body ≡ Some told → Some kept ≡ Some told → body ≡ kept
one_written one other = grind arith

module _ {R E F : Type 0} (source : Reader R E) (len : ℕ) {old new : Decoder R} where
  -- The body was read whole, whether the writer fails or not.
  pub held_read : (answer : Result (Unit {0}) F) (result : Result (Unit {0}) (DiagError E F)) → result ≡ said_of answer
      → SkipsWhole source Bytes (Some len) old new
      → OnString (λ told. SkipsString source Bytes (Some len) 64 old told new) result
  held_read (Ok done) result same whole = rw same whole
  held_read (Err fault) result same whole = rw same tt

module _ {R E W F : Type 0} (source : Reader R E) (sink : Writer W F) (inside : Inside W F) (mark : Mark) (len : ℕ) where
  -- The show of a body in memory is the show of the string.
  kept_shown : (place : Place) (old : Sides R W) (new : Decoder R) (writer : W) (answer : Result (Unit {0}) F)
      (result : Result (Unit {0}) (DiagError E F)) → is_held place (h.Bytes (Some len)) ≡ true → result ≡ said_of answer
      → (ends : ReadsRest source Bytes [] len old.decoder new)
      → ShowsKept sink inside place mark ends.read old.writer answer writer
      → ShowsRest source sink inside place (h.Bytes (Some len)) mark old result (sides new writer)
  kept_shown place old new writer (Ok done) result is same ends shows = rw same (record {
    rest = ends.read;
    text = shows.text;
    shown = subst (λ (n : ℕ). IsShown place (h.Bytes (Some n)) mark ends.read shows.text) ends.all shows.shown;
    passed = ends.passed;
    written = shows.written;
  })
  kept_shown place old new writer (Err fault) result is same ends shows =
      rw same (held {error = d.Write fault} is (record { ends = ends; stops = shows }))

  module _ (line : Line) (strings levels room : ℕ)
      (is : is_held (place_of line strings levels room) (h.Bytes (Some len)) ≡ true) where
    -- The memory is the body and the rest that is lent to the strings within it.
    pub held_shown : (space : ℕ) (body : List ℕ) (old : Decoder R) (writer : W) (new : Decoder R) (after : W)
        (answer : Result (Unit {0}) F) (result : Result (Unit {0}) (DiagError E F)) → result ≡ said_of answer
        → (ends : ReadsRest source Bytes [] len old new) → body ≡ ends.read → length body + space ≡ room
        → (is_held (place_of line strings levels (length body + space)) (h.Bytes (Some (length body))) ≡ true
        → ShowsKept sink inside (place_of line strings levels (length body + space)) mark body writer answer after)
        → ShowsRest source sink inside (place_of line strings levels room) (h.Bytes (Some len)) mark (sides old writer)
        result (sides new after)
    held_shown space body old writer new after answer result same ends bytes sum shows =
        let fits = subst (λ (n : ℕ). is_held (place_of line strings levels n) (h.Bytes (Some (length body))) ≡ true)
        (sym sum) (subst (λ (n : ℕ). is_held (place_of line strings levels room) (h.Bytes (Some n)) ≡ true)
        (omega (arith, ap length bytes, ends.all)) is) in
        kept_shown (place_of line strings levels room) (sides old writer) new after answer result is same ends
        (subst (λ (z : List ℕ). ShowsKept sink inside (place_of line strings levels room) mark z writer answer after) bytes
        (subst (λ (n : ℕ). ShowsKept sink inside (place_of line strings levels n) mark body writer answer after) sum
        (shows fits)))

    -- If the read of the body stops, the show of the string does.
    pub held_cut : (at : ℕ) (old : Decoder R) (writer : W) (new : Decoder R) (error : Error E)
        → at ≡ old.offset - title_len (h.Bytes (Some len)) → StopsRest source Bytes [] len 64 at old error new
        → RestStops source sink inside (place_of line strings levels room) (h.Bytes (Some len)) mark (sides old writer)
        (d.Read (s.Read error)) (sides new writer)
    held_cut at old writer new error here stops = held {error = d.Read (s.Read error)} is (record {
      ends = subst (λ (n : ℕ). StopsRest source Bytes [] len 64 n old error new) here stops;
      unwritten = refl;
    })
