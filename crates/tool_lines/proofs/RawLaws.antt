-- A copy between a reader and a writer of std, from the copy of elements and the flush after it.
use Rattle.std.proofs.Common.{◌≡◌, ℕ, ◌+◌, ◌≤◌, ◌^◌, List, [], ◌++◌, length, Option, Some, None, Result}
use Rattle.std.proofs.Common.{Ok, Err, OnOk, refl, sym, ap, ◌∙◌, inl, inr, arith}
use Rattle.std.specs.Io.KnownBytes.{Keeps, append_known, prepend_known}
use Rattle.std.proofs.lemmas.List.{append-nil}
use Rattle.ciborium_ll_io.specs.declared.io.Read.{Ghosts as Reader}
use Rattle.ciborium_ll_io.specs.declared.io.Write.{Ghosts as Writer}
use Rattle.ciborium_ll_decoder.specs.declared.dec.Decoder.{Decoder}
use Rattle.ciborium_ll_decoder.specs.declared.dec.Error.TheVariants as e
use Rattle.ciborium_ll_buffers.specs.declared.buffered.FaultKept.{FaultKept}
use Rattle.ciborium_ll_streams.specs.declared.streams.ReadFault.{ReadFault}
use Rattle.ciborium_ll_streams.specs.declared.streams.WriteFault.{WriteFault}
use Rattle.ciborium_ll_decoder.specs.declared.copy.RecodeError.{RecodeError}
use Rattle.ciborium_ll_decoder.specs.declared.copy.RecodeError.TheVariants as r
use Rattle.ciborium_ll_grammar.specs.declared.spelling.Spelling.TheVariants.{Any}
use Rattle.ciborium_ll_grammar.specs.Faults.{Syntax}
use Rattle.ciborium_ll_decoder.specs.BodyCopies.{sides}
use Rattle.ciborium_ll_decoder.specs.Decoding.{ReadsPast, view, spelling_of}
use Rattle.ciborium_ll_recode.specs.Recoding.{CopiesElements, StopsCopy}
use Rattle.ciborium_ll_recode.specs.RecodingTold.{IsTold, RecodesAnyhow, StopsShort}
use Rattle.ciborium_ll_decoder.proofs.BodyLaws.{view_none}
use Rattle.tool_lines.specs.Restoring.{Restores, RestoresCopy, RestoresFlush}
use Rattle.tool_lines.specs.Raw.{CopiesFlushed, CopiesRaw, ReadsShort, Tells, TellsBehind, TellsFlushed}
use Rattle.tool_lines.specs.Raw.{flushed_outcome}

-- Known bytes that are kept are still known.
pub kept_known : (old new : Option (List ℕ)) (bytes : List ℕ) → Keeps old new → old ≡ Some bytes → new ≡ Some bytes
kept_known None new bytes keeps known = absurd cc
kept_known (Some xs) None bytes keeps known = absurd keeps
kept_known (Some xs) (Some ys) bytes keeps known = ap Some keeps ∙ known

-- If some of the known bytes are held back, the others are known.
pub front_known : (known : Option (List ℕ)) (held bytes : List ℕ) → append_known known held ≡ Some bytes
    → (front : List ℕ) × (lost : List ℕ) × (known ≡ Some front) × (bytes ≡ front ++ lost)
front_known None held bytes told = absurd cc
front_known (Some xs) held bytes told = (xs, held, refl, cc)

pub whole_known : (known : Option (List ℕ)) (held bytes : List ℕ) → held ≡ [] → append_known known held ≡ Some bytes
    → known ≡ Some bytes
whole_known None held bytes none told = absurd cc
whole_known (Some xs) held bytes none told = ap Some (sym (append-nil xs) ∙ ap (λ (z : List ℕ). xs ++ z) (sym none))
    ∙ told

-- A fact about a copy holds with the faults of std in their places.
pub restored_copies : {R W : Type 0} (left : R → List ℕ → Type 0) (got : W → List ℕ → Type 0) (count : ℕ)
    (due written : List ℕ) (reader : R) (writer : W)
    (read : Option ReadFault) (write : Option WriteFault) (error : RecodeError FaultKept FaultKept)
    (error' : RecodeError ReadFault WriteFault) → Restores read write error error'
    → CopiesRaw left got count due written (Err error) reader writer
    → CopiesRaw left got count due written (Err error') reader writer
restored_copies left got count due written reader writer read write (r.Read (e.Io failed)) error' is copies =
    rw is.1 copies
restored_copies left got count due written reader writer read write (r.Read (e.Syntax place)) error' is copies =
    rw is copies
restored_copies left got count due written reader writer read write (r.Read e.TooLong) error' is copies = rw is copies
restored_copies left got count due written reader writer read write (r.Read e.Waiting) error' is copies = absurd copies
restored_copies left got count due written reader writer read write (r.Write failed) error' is copies = rw is.1 copies

-- A fact about the outcome of a copy holds with the faults of std in their places.
pub restored_outcome : {R W : Type 0} (left : R → List ℕ → Type 0) (got : W → List ℕ → Type 0) (count : ℕ)
    (due written : List ℕ) (reader : R) (writer : W)
    (read : Option ReadFault) (write : Option WriteFault)
    (outcome : Result (Unit {0}) (RecodeError FaultKept FaultKept))
    (outcome' : Result (Unit {0}) (RecodeError ReadFault WriteFault))
    → RestoresCopy read write outcome outcome' → CopiesRaw left got count due written outcome reader writer
    → CopiesRaw left got count due written outcome' reader writer
restored_outcome left got count due written reader writer read write (Ok done) outcome' is copies = rw is copies
restored_outcome left got count due written reader writer read write (Err error) outcome' is copies =
    rw is.1 (restored_copies left got count due written reader writer read write error is.0 is.2 copies)

-- A flush tells the bytes of the writer within, without those that it holds back after a failure.
pub flushed_known : {W : Type 0} (contents : W → Option (List ℕ)) (write : Option WriteFault)
    (outcome : Result (Unit {0}) FaultKept) (outcome' : Result (Unit {0}) WriteFault) (writer : W)
    (held bytes : List ℕ) → RestoresFlush write outcome outcome' → OnOk outcome (held ≡ [])
    → append_known (contents writer) held ≡ Some bytes → TellsFlushed contents outcome' writer bytes
flushed_known contents write (Ok done) outcome' writer held bytes is sent told =
    rw is (whole_known (contents writer) held bytes sent told)
flushed_known contents write (Err failed) outcome' writer held bytes is sent told =
    rw is.1 (front_known (contents writer) held bytes told)

-- If some of the known bytes were read ahead, the others are known.
known_behind : (known : Option (List ℕ)) (held bytes : List ℕ) → prepend_known held known ≡ Some bytes
    → (rest : List ℕ) × (known ≡ Some rest) × (bytes ≡ held ++ rest)
known_behind None held bytes told = absurd cc
known_behind (Some xs) held bytes told = (xs, refl, cc)

-- The reader within tells the bytes without those that were read ahead.
pub behind_known : {R : Type 0} (remaining : R → Option (List ℕ)) (most : ℕ) (reader : R) (held bytes : List ℕ)
    → length held ≤ most → prepend_known held (remaining reader) ≡ Some bytes → TellsBehind remaining most reader bytes
behind_known remaining most reader held bytes within told =
    let split = known_behind (remaining reader) held bytes told in
    (held, split.0, split.1, split.2, within)

-- A copy hands on its reader and its writer, with the facts that they tell.
module _ {R R' W W' E F : Type 0} (left : R → List ℕ → Type 0) (left' : R' → List ℕ → Type 0)
    (got : W → List ℕ → Type 0) (got' : W' → List ℕ → Type 0) (reader : R) (reader' : R') (writer : W) (writer' : W')
    (leaves : (bytes : List ℕ) → left reader bytes → left' reader' bytes)
    (gets : (bytes : List ℕ) → got writer bytes → got' writer' bytes) (count : ℕ) (due written : List ℕ) where
  pub handed_on : (outcome : Result (Unit {0}) (RecodeError E F))
      → CopiesRaw left got count due written outcome reader writer
      → CopiesRaw left' got' count due written outcome reader' writer'
  handed_on (Ok done) copies =
      record { front = copies.front; output = gets _ copies.output; rest = leaves _ copies.rest }
  handed_on (Err (r.Read (e.Io fault))) copies = record { stop = copies.stop; output = gets _ copies.output }
  handed_on (Err (r.Read (e.Syntax place))) copies =
      record {
        fault = copies.fault;
        answered = copies.answered;
        output = gets _ copies.output;
        rest = leaves _ copies.rest;
      }
  handed_on (Err (r.Read e.TooLong)) copies =
      (record { stop = copies.0.stop; output = gets _ copies.0.output }, copies.1)
  handed_on (Err (r.Read e.Waiting)) copies = absurd copies
  handed_on (Err (r.Write fault)) copies =
      record { stop = copies.stop; output = gets _ copies.output; rest = leaves _ copies.rest }

  -- A flush between the two hands them on with its answer.
  pub flushed_on : (outcome : Result (Unit {0}) (RecodeError E F)) (flushed : Result (Unit {0}) F)
      → CopiesRaw left got count due written outcome reader writer
      → CopiesFlushed left' got' count due written (flushed_outcome outcome flushed) reader' writer'
  flushed_on (Ok done) (Ok sent) copies = handed_on (Ok done) copies
  flushed_on (Ok done) (Err fault) copies = inr (handed_on (Ok done) copies)
  flushed_on (Err (r.Read error)) flushed copies = handed_on (Err (r.Read error)) copies
  flushed_on (Err (r.Write fault)) flushed copies = inl (handed_on (Err (r.Write fault)) copies)

module _ {D S E F : Type 0} (source : Reader D E) (sink : Writer S F) where
  -- If no header waits, the bytes that are due are those that the reader has ahead.
  pub told_ahead : (old : Decoder D) (writer : S) (due written : List ℕ) → spelling_of old ≡ Any → old.waiting ≡ None
      → source.ahead old.reader ≡ Some due → sink.written writer ≡ Some written
      → IsTold source sink Any (sides old writer) due written
  told_ahead old writer due written lenient none ahead output =
      record {
        mode = lenient;
        due-told = view_none old.waiting (source.ahead old.reader) none
            ∙ ahead;
        written-told = output;
        none_waits = λ on. none;
      }

  -- If no header waited, none waits after calls that all succeeded.
  still_none : (old new : Decoder D) (bytes : List ℕ) → ReadsPast source old bytes new → old.waiting ≡ None
      → new.waiting ≡ None
  still_none old new bytes passed none =
      elim passed.waiting [
        | inl same ↦ ap (λ (d : Decoder D). d.waiting) same.1 ∙ none
        | inr gone ↦ gone
      ]

  -- No header waits after a copy that met a syntax.
  none_behind : (count room place : ℕ) (old new : Decoder D) (writer writer' : S)
      → StopsCopy source sink count room (sides old writer) (r.Read (e.Syntax place)) (sides new writer')
      → old.waiting ≡ None → new.waiting ≡ None
  none_behind count room place old new writer writer' (inl stops) none =
      elim stops.fails [ inl refused ↦ refused.none_waits | inr longer ↦ longer.none_waits ]
  none_behind count room place old new writer writer' (inr (inl stops)) none = stops.other.pulled.none_waits
  none_behind count room place old new writer writer' (inr (inr stops)) none =
      let between = stops.between.decoder in
      let part = stops.stopped.ends.part in
      let gives = stops.stopped.ends.stops.1 in
      still_none stops.stopped.ends.between new gives.last gives.passed
      (still_none between stops.stopped.ends.between part.read part.passed
      (still_none old between stops.bytes stops.copied.passed none))

  module _ (count : ℕ) (due written : List ℕ) (old new : Decoder D) (writer writer' : S) (start : old.offset ≡ 0)
      (none-waits : old.waiting ≡ None) where
    -- If no header waits, the bytes that are left are those that the reader has ahead.
    left_ahead : (bytes : List ℕ) → new.waiting ≡ None → view source new ≡ Some bytes
        → source.ahead new.reader ≡ Some bytes
    left_ahead bytes none told = sym (view_none new.waiting (source.ahead new.reader) none) ∙ told

    abbrev short : StopsShort source sink count due written old (sides new writer')
        → ReadsShort (Tells sink.written) count due written writer'
    short stops = record { stop = stops.stop; output = stops.output }

    near : (offset consumed : ℕ) → offset ≡ consumed → 2 ^ 64 ≤ offset + 64 → 2 ^ 64 ≤ consumed + 64
    near offset consumed same full = omega (arith, same, full)

    -- The copy of raw elements follows for each answer.
    pub raw_any : (outcome : Result (Unit {0}) (RecodeError E F))
        → CopiesElements source sink count 64 (sides old writer) outcome (sides new writer')
        → RecodesAnyhow source sink Any count 64 due written old outcome (sides new writer')
        → CopiesRaw (Tells source.ahead) (Tells sink.written) count due written outcome new.reader writer'
    raw_any (Ok done) copied told = record {
      front = told.front;
      output = told.output;
      rest = left_ahead _ (still_none old new copied.elements.bytes copied.elements.copied.passed none-waits) told.left;
    }
    raw_any (Err (r.Read (e.Io fault))) copied told = short told
    raw_any (Err (r.Read (e.Syntax place))) copied told =
        let met = told.2 in
        let here : place ≡ told.0 = omega (arith, told.1, start) in
        record {
          fault = met.fault;
          answered = met.answered ∙ ap Syntax (sym here);
          output = met.output;
          rest = left_ahead _ (none_behind count 64 place old new writer writer' copied none-waits) met.left;
        }
    raw_any (Err (r.Read e.TooLong)) copied told =
        let stop = told.0.stop in (
          short told.0,
          near new.offset (length stop.before + stop.consumed)
              (omega (arith, start, told.0.offset)) told.1,
        )
    raw_any (Err (r.Read e.Waiting)) copied told = absurd told
    raw_any (Err (r.Write fault)) copied told = record {
      stop = told.stop;
      output = told.output;
      rest = left_ahead _ (still_none old new _ copied.passed none-waits) told.left;
    }
