-- Laws of a copy of a stream, and of the flush after the copy.
use Rattle.std.proofs.Common.{◌≡◌, ℕ, zero, suc, ◌+◌, IsSome, Option, List, [], ◌++◌, length, drop}
use Rattle.std.proofs.Common.{None, Some, Result, Ok, Err, refl, sym, ap, subst, ◌∙◌, inl, inr, arith}
use Rattle.ciborium_ll_grammar.specs.declared.spelling.Spelling.TheVariants.{Any}
use Rattle.ciborium_ll.specs.Types.Read.{Ghosts as Reader}
use Rattle.ciborium_ll.specs.Types.Write.{Ghosts as Writer}
use Rattle.ciborium_ll.specs.Types.Decoder.{Decoder}
use Rattle.ciborium_ll.specs.Types.Error.{Error}
use Rattle.ciborium_ll.specs.Types.Error.TheVariants as e
use Rattle.ciborium_ll.specs.Types.RecodeError.{RecodeError}
use Rattle.ciborium_ll.specs.Types.RecodeError.TheVariants as r
use Rattle.ciborium_ll.specs.Transfer.{Shrinks}
use Rattle.ciborium_ll.specs.Strings.{Kind}
use Rattle.ciborium_ll.specs.Elements.{spelling}
use Rattle.ciborium_ll.specs.Faults.{Answer, Short, Syntax}
use Rattle.ciborium_ll.specs.Decoding.{IsFresh, behind_waiting, view}
use Rattle.ciborium_ll.specs.Finishing.{EndsBody}
use Rattle.ciborium_ll.specs.Premises.{CanWrite}
use Rattle.ciborium_ll.specs.Recoding.{CopiesAll, Recodes, StopsAtTitle, StopsInBody, StopsCopy}
use Rattle.ciborium_ll.specs.RecodingTold.{CopiesFront, HasRoom, IsReady, IsTold, MeetsFault, RecodesTold}
use Rattle.ciborium_ll.specs.RecodingTold.{RecodesAnyhow, StopsShort}
use Rattle.ciborium_ll.specs.Sides.{Sides, sides}
use Rattle.ciborium_ll.proofs.DecodingLaws.{passes_settled}
use Rattle.ciborium_ll.proofs.StrictFaultLaws.{no_fault}
use Rattle.uses.specs.Streams.{AreReady, CopiesSo, IsNormalised, Normalises, NormalisesAnyhow, StopsAtFault}
use Rattle.uses.specs.Streams.{CopiesAndFlushes, FlushesSo, RecodesFrom, FailsToRead, TellBytes}

-- A room that was told before a write is told after the write.
room_stays : (old new : Option ℕ) (count room : ℕ) → old ≡ Some room → Shrinks old new count → IsSome new
room_stays None new count room told shrinks = absurd cc
room_stays (Some old) None count room told shrinks = absurd shrinks
room_stays (Some old) (Some new) count room told shrinks = refl

module _ {R E W F : Type 0} (source : Reader R E) (sink : Writer W F) where
  -- ---- the decoder and the writer at first

  -- If the reader and the writer tell their bytes, the fresh decoder and the encoder's writer tell them.
  pub told : (reader : R) (writer writer' : W) (decoder : Decoder R) (due written : List ℕ) → IsFresh reader 0 decoder
      → writer' ≡ writer → TellBytes source sink reader writer due written
      → IsTold source sink Any (sides decoder writer') due written
  told reader writer writer' decoder due written fresh same tell = record {
    mode = fresh.mode;
    due-told = ap (λ w. behind_waiting w (source.ahead decoder.reader)) fresh.none_waits
        ∙ ap source.ahead fresh.reader ∙ tell.ahead;
    written-told = ap sink.written same ∙ tell.output;
    none_waits = λ on. fresh.none_waits;
  }

  -- If the reader and the writer are ready, the fresh decoder and the encoder's writer are ready for a copy.
  pub ready : (count : ℕ) (reader : R) (writer writer' : W) (decoder : Decoder R) (due written : List ℕ)
      → IsFresh reader 0 decoder → writer' ≡ writer → AreReady source sink count reader writer due written
      → IsReady source sink Any count 64 (sides decoder writer') due written
  ready count reader writer writer' decoder due written fresh same are = record {
    mode = fresh.mode;
    can_read = are.can_read decoder fresh;
    can_write = subst (λ (w : W). CanWrite sink (HasRoom count due) w written) (sym same) are.can_write;
  }

  -- ---- no header waits after a copy from a fresh decoder

  copied_settled : (count : ℕ) (due written : List ℕ) (old new : Decoder R) (writer' : W) → old.waiting ≡ None
      → CopiesFront source sink Any count due written old (sides new writer') → new.waiting ≡ None
  copied_settled zero due written old new writer' none copied = copied.still refl ∙ none
  copied_settled (suc count) due written old new writer' none copied = copied.settled (omega arith)

  title_settled : (count : ℕ) (old new : Sides R W) (error : Error E) → StopsAtTitle source sink count old error new
      → new.decoder.waiting ≡ None
  title_settled count old new (e.Io fault) stops = stops.fails.none_waits
  title_settled count old new (e.Syntax at) stops = elim stops.fails
      [ inl refused ↦ refused.none_waits | inr longer ↦ longer.none_waits ]
  title_settled count old new e.TooLong stops = stops.fails.none_waits
  title_settled count old new e.Waiting stops = absurd stops.fails

  ends_settled : (kind : Kind) (len room place : ℕ) (old new : Decoder R) (error : Error E) → old.waiting ≡ None
      → EndsBody source kind [] len room place old (Err error) new → new.waiting ≡ None
  ends_settled kind len room place old new (e.Io fault) none ends = ends.stops.1.none_waits
  ends_settled kind len room place old new (e.Syntax at) none ends =
      let damage = ends.stops.1 in
      passes_settled source ends.between new damage.last damage.passed
      (passes_settled source old ends.between ends.part.read ends.part.passed none)
  ends_settled kind len room place old new e.TooLong none ends =
      ends.stops.1.waiting ∙ passes_settled source old ends.between ends.part.read ends.part.passed none
  ends_settled kind len room place old new e.Waiting none ends = absurd ends.stops

  body_settled : (count room : ℕ) (old new : Sides R W) (error : Error E) → old.decoder.waiting ≡ None
      → StopsInBody source sink count room old error new → new.decoder.waiting ≡ None
  body_settled count room old new error none stops =
      ends_settled stops.kind stops.len room (old.decoder.offset + stops.start) stops.between.decoder new.decoder error
      (passes_settled source old.decoder stops.between.decoder stops.bytes stops.copied.passed none) stops.stopped.ends

  stop_settled : (count room : ℕ) (old new : Sides R W) (error : RecodeError E F) → old.decoder.waiting ≡ None
      → StopsCopy source sink count room old error new → new.decoder.waiting ≡ None
  stop_settled count room old new (r.Read (e.Io fault)) none (inl stops) =
      title_settled count old new (e.Io fault) stops
  stop_settled count room old new (r.Read (e.Io fault)) none (inr stops) =
      body_settled count room old new (e.Io fault) none stops
  stop_settled count room old new (r.Read (e.Syntax at)) none (inl stops) =
      title_settled count old new (e.Syntax at) stops
  stop_settled count room old new (r.Read (e.Syntax at)) none (inr (inl stops)) = stops.other.pulled.none_waits
  stop_settled count room old new (r.Read (e.Syntax at)) none (inr (inr stops)) =
      body_settled count room old new (e.Syntax at) none stops
  stop_settled count room old new (r.Read e.TooLong) none (inl stops) = title_settled count old new e.TooLong stops
  stop_settled count room old new (r.Read e.TooLong) none (inr (inl stops)) = stops.pulled.none_waits
  stop_settled count room old new (r.Read e.TooLong) none (inr (inr stops)) =
      body_settled count room old new e.TooLong none stops
  stop_settled count room old new (r.Read e.Waiting) none stops = absurd stops
  stop_settled count room old new (r.Write fault) none stops =
      passes_settled source old.decoder new.decoder (stops.bytes ++ stops.read) stops.passed none

  -- If no header waits, the bytes due are the bytes of the reader.
  due_ahead : (new : Decoder R) (reader' : R) (rest : List ℕ) → new.waiting ≡ None → reader' ≡ new.reader
      → view source new ≡ Some rest → source.ahead reader' ≡ Some rest
  due_ahead new reader' rest none same due =
      ap source.ahead same ∙ sym (ap (λ w. behind_waiting w (source.ahead new.reader)) none) ∙ due

  -- ---- the copy, from a fresh decoder

  module _ (count : ℕ) (due written : List ℕ) (reader reader' : R) (writer : W) (old new : Decoder R) (writer' : W)
      (fresh : IsFresh reader 0 old) (same : reader' ≡ new.reader) where
    pub copies_so : CopiesFront source sink Any count due written old (sides new writer')
        → CopiesSo source sink count due written reader' writer'
    copies_so copied = record {
      front = copied.front;
      output = copied.output;
      left = due_ahead new reader' copied.front.rest
          (copied_settled count due written old new writer' fresh.none_waits copied) same copied.left;
    }

    -- A writer that told its room before the copy tells its room after the copy.
    pub room_told : (room : ℕ) → sink.room writer ≡ Some room
        → CopiesAll source sink count (sides old writer) (sides new writer') → IsSome (sink.room writer')
    room_told room told all =
        room_stays (sink.room writer) (sink.room writer') (length (spelling all.elements.marks)) room told
        all.elements.copied.written.room

    at_fault : (answer : Answer) → new.waiting ≡ None
        → MeetsFault source sink Any count due written answer old (sides new writer')
        → StopsAtFault source sink count due written answer reader' writer'
    at_fault answer none meets = record {
      fault = meets.fault;
      answered = meets.answered;
      fewer = λ front. no_fault Any count due front meets.fault;
      output = meets.output;
      left = due_ahead new reader' (drop meets.fault.consumed meets.fault.ahead) none same meets.left;
    }

    at_syntax : (place start : ℕ) → place ≡ old.offset + start → new.waiting ≡ None
        → MeetsFault source sink Any count due written (Syntax start) old (sides new writer')
        → StopsAtFault source sink count due written (Syntax place) reader' writer'
    at_syntax place start at none meets =
        let from_start : start ≡ place = omega (arith, at, fresh.offset) in
        at_fault (Syntax place) none (subst (λ (n : ℕ). MeetsFault source sink Any count due written (Syntax n) old
        (sides new writer')) from_start meets)

    pub error_told : (error : RecodeError E F)
        → StopsCopy source sink count 64 (sides old writer) error (sides new writer')
        → RecodesTold source sink Any count due written old (Err error) (sides new writer')
        → IsNormalised source sink count due written (Err error) reader' writer'
    error_told (r.Read (e.Io fault)) stops told =
        at_fault Short (stop_settled count 64 _ _ (r.Read (e.Io fault)) fresh.none_waits stops) told
    error_told (r.Read (e.Syntax place)) stops told =
        at_syntax place told.0 told.1 (stop_settled count 64 _ _ (r.Read (e.Syntax place)) fresh.none_waits stops)
        told.2
    error_told (r.Read e.TooLong) stops told = absurd told
    error_told (r.Read e.Waiting) stops told = absurd told
    error_told (r.Write fault) stops told = absurd told

    abbrev short : StopsShort source sink count due written old (sides new writer')
        → FailsToRead source sink count due written writer'
    short stops = record { stop = stops.stop; output = stops.output }

    pub error_anyhow : (error : RecodeError E F)
        → StopsCopy source sink count 64 (sides old writer) error (sides new writer')
        → RecodesAnyhow source sink Any count 64 due written old (Err error) (sides new writer')
        → NormalisesAnyhow source sink count due written (Err error) reader' writer'
    error_anyhow (r.Read (e.Io fault)) stops anyhow = short anyhow
    error_anyhow (r.Read (e.Syntax place)) stops anyhow =
        at_syntax place anyhow.0 anyhow.1 (stop_settled count 64 _ _ (r.Read (e.Syntax place)) fresh.none_waits stops)
        anyhow.2
    error_anyhow (r.Read e.TooLong) stops anyhow =
        let at = anyhow.0.offset in
        let full = anyhow.1 in
        (short anyhow.0, omega (arith, at, full, fresh.offset))
    error_anyhow (r.Read e.Waiting) stops anyhow = absurd anyhow
    error_anyhow (r.Write fault) stops anyhow = inl (record {
      stop = anyhow.stop;
      output = anyhow.output;
      left = due_ahead new reader' anyhow.stop.rest
          (stop_settled count 64 _ _ (r.Write fault) fresh.none_waits stops) same anyhow.left;
    })

  -- ---- the flush after the copy, whose answer is the answer of the call

  module _ (count : ℕ) (due written : List ℕ) (reader' : R) (copied last : W)
      (copies : CopiesSo source sink count due written reader' copied) where
    normalises : sink.flushed copied last → Normalises source sink count due written reader' last
    normalises flushed = record { copied = copied; copies = copies; flushed = flushed }

    pub flush_told : IsSome (sink.room copied) → (result : Result (Unit {0}) (RecodeError E F))
        → FlushesSo sink copied result last → IsNormalised source sink count due written result reader' last
    flush_told told (Ok done) flushes = normalises flushes.flushed
    flush_told told (Err (r.Read error)) never = absurd never
    flush_told told (Err (r.Write fault)) flushes =
        record { front = copies.front; output = flushes.bytes told ∙ copies.output; left = copies.left }

    pub flush_anyhow : (result : Result (Unit {0}) (RecodeError E F)) → FlushesSo sink copied result last
        → NormalisesAnyhow source sink count due written result reader' last
    flush_anyhow (Ok done) flushes = normalises flushes.flushed
    flush_anyhow (Err (r.Read error)) never = absurd never
    flush_anyhow (Err (r.Write fault)) flushes =
        inr (record { copied = copied; copies = copies; kept = flushes.bytes })

  -- ---- over any reader and writer

  module _ (count : ℕ) (reader reader' : R) (writer : W) where
    pub recodes_from : (made left between : W) (old new : Decoder R) (result : Result (Unit {0}) (RecodeError E F))
        → IsFresh reader 0 old → reader' ≡ new.reader → made ≡ writer → between ≡ left
        → Recodes source sink count 64 (sides old made) result (sides new left)
        → RecodesFrom source sink count reader writer result reader' between
    recodes_from made left between old new result fresh same from stays recodes = record {
      decoder = old;
      fresh = fresh;
      behind = new;
      recodes = subst (λ (w : W). Recodes source sink count 64 (sides old w) result (sides new between)) from
          (subst (λ (w : W). Recodes source sink count 64 (sides old made) result (sides new w)) (sym stays) recodes);
      left = same;
    }

    pub flush_copies : (between last : W) (result : Result (Unit {0}) (RecodeError E F))
        → RecodesFrom source sink count reader writer (Ok (tt {0})) reader' between
        → FlushesSo sink between result last
        → CopiesAndFlushes source sink count reader writer result reader' last
    flush_copies between last (Ok done) copies flushes =
        record { between = between; copies = copies; flushes = flushes }
    flush_copies between last (Err (r.Read error)) copies never = absurd never
    flush_copies between last (Err (r.Write fault)) copies flushes =
        inr (record { between = between; copies = copies; flushes = flushes })

    pub error_copies : (last : W) (error : RecodeError E F)
        → RecodesFrom source sink count reader writer (Err error) reader' last
        → CopiesAndFlushes source sink count reader writer (Err error) reader' last
    error_copies last (r.Read error) stops = stops
    error_copies last (r.Write fault) stops = inl stops
