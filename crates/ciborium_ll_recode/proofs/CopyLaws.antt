-- The copy of one element, by its parts: how the copy goes on, and the points at which it stops. The copy gives a body
-- to an encoder, which passes the body on to its writer.
use Rattle.std.proofs.Common.{◌≡◌, ℕ, suc, ◌+◌, ◌-◌, ◌<◌, ◌≤◌, List, [], ◌∷◌, ◌++◌, length, Some, None, Result, Ok, Err}
use Rattle.std.proofs.Common.{refl, sym, ap, subst, ◌∙◌, ◌⊎◌, inl, inr, arith, append_assoc, append-nil, length-append}
use Rattle.std.specs.List.{AllByRecursion}
use Rattle.std.specs.Result.{IsErrAnd, MatchResult}
use Rattle.std.proofs.KnownBytes.{Appends-nil}
use Rattle.ciborium_ll_io.proofs.WriteLaws.{Shrinks-zero, WritesBytes-then}
use Rattle.ciborium_ll_io.specs.declared.io.Read.{Ghosts as Reader}
use Rattle.ciborium_ll_io.specs.declared.io.Write.{Ghosts as Writer}
use Rattle.ciborium_ll_io.specs.Writes.{WritesAll, WritesBytes, WritesFront}
use Rattle.ciborium_ll_grammar.specs.declared.hdr.Header.{Header}
use Rattle.ciborium_ll_grammar.specs.declared.hdr.Header.TheVariants as h
use Rattle.ciborium_ll_grammar.specs.Title.{IsTitle, IsStrictTitle, shortest_title, title_len}
use Rattle.ciborium_ll_grammar.specs.Strings.{Kind, kind_header, none}
use Rattle.ciborium_ll_grammar.specs.Strings.IsString.{definite}
use Rattle.ciborium_ll_grammar.specs.Elements.{IsPlain, Mark, Plain, Whole, Open, Close, mark_spelling, spelling}
use Rattle.ciborium_ll_grammar.specs.Elements.{pieces, IsElement, plain, string, IsRun, done, IsNoSmallSimple, IsStrictSpelling}
use Rattle.ciborium_ll_grammar.specs.Faults.{Point, Due, In, BodyDue, Reaches, due, inside, opened, body, IsAtTitle}
use Rattle.ciborium_ll_grammar.specs.Faults.{due_title, with_front}
use Rattle.ciborium_ll_grammar.proofs.TitleLaws.{shortest_no_longer, shortest_some}
use Rattle.ciborium_ll_grammar.proofs.ElementLaws.{run_again, spelling-append}
use Rattle.ciborium_ll_grammar.proofs.StepLaws.{add_element}
use Rattle.ciborium_ll_grammar.proofs.SpelledLaws.{spelled_none, spelled_then, spelled_title}
use Rattle.ciborium_ll_decoder.specs.declared.dec.Decoder.{Decoder}
use Rattle.ciborium_ll_decoder.specs.declared.dec.Error.{Error}
use Rattle.ciborium_ll_decoder.specs.declared.copy.RecodeError.{RecodeError}
use Rattle.ciborium_ll_decoder.specs.declared.copy.RecodeError.TheVariants as r
use Rattle.ciborium_ll_decoder.specs.Decoding.{ReadsPast, Strictly, IsSteady, DecoderPullAnswer, PullsTitle}
use Rattle.ciborium_ll_decoder.specs.BodyCopies.{CopiesBody, Sides, sides}
use Rattle.ciborium_ll_decoder.proofs.BodyLaws.{sound_body}
use Rattle.ciborium_ll_decoder.proofs.DecodingLaws.{ReadsPast-none, ReadsPast-pulled, ReadsPast-then, passes_settled}
use Rattle.ciborium_ll_decoder.proofs.NestLaws.{alone_bytes, open_alone, title_some}
use Rattle.ciborium_ll_decoder.proofs.SegmentLaws.{sound_none}
use Rattle.ciborium_ll_recode.specs.Recoding.{WritesHeader, NextWrite, Alone, Titled, Chunk, Copied, CopiesRun}
use Rattle.ciborium_ll_recode.specs.Recoding.{CopiesAll, StopsAtTitle, StopsInBody, StopsCopy, CopiesElements}
use Rattle.ciborium_ll_recode.specs.Recoding.{CopiesOne, IsBehind, GoesOn, CopiesElement, CopiesBehind, IsWithin}
use Rattle.ciborium_ll_recode.specs.Recoding.{ReadsString}
use Rattle.ciborium_ll_encoder.specs.declared.enc.Encoder.{Encoder}
use Rattle.ciborium_ll_encoder.specs.Encoding.{writer_of}
use Rattle.ciborium_ll_recode.specs.Sides.{sides_of}

-- ---- whether a header waits after a run

-- An element has at least one byte.
element_some : (w : List ℕ) (ms : List Mark) → IsElement w ms → 0 < length w
element_some w ms e = grind (arith, title_some, length-append {A = ℕ})

-- After at least one element no header waits.
pub run_settled : {R : Type 0} (count : ℕ) (old new : Decoder R) (bytes : List ℕ) (marks : List Mark)
    → IsRun count bytes marks → ((bytes ≡ []) × (new ≡ old)) ⊎ (new.waiting ≡ None)
    → 0 < count → new.waiting ≡ None
run_settled count old new bytes marks run way some = grind (arith, element_some, length-append {A = ℕ})

-- After no element a header waits exactly if one waited before.
pub run_still : {R E : Type 0} (source : Reader R E) (count : ℕ) (old new : Decoder R) (bytes : List ℕ)
    (marks : List Mark) → IsRun count bytes marks → ReadsPast source old bytes new
    → count ≡ 0 → new.waiting ≡ old.waiting
run_still source count old new bytes marks run passed is = grind (arith, shortest_some, length-append {A = ℕ})

-- ---- writes to an encoder as a writer

module _ {R E W F : Type 0} (source : Reader R E) (sink : Writer W F) where
  -- An encoder as a writer, which passes the bytes on to its own writer.
  abbrev pub passing_on : Writer (Encoder W) F
  passing_on = record {
    written = λ encoder. sink.written (writer_of encoder);
    room = λ encoder. sink.room (writer_of encoder);
    failures = λ encoder. sink.failures (writer_of encoder);
    flushed = λ old new. sink.flushed (writer_of old) (writer_of new);
    target = λ encoder. sink.target (writer_of encoder);
  }

  module _ (old new : Encoder W) (bytes : List ℕ) where
    all_passed_on : WritesAll passing_on old bytes new → WritesAll sink (writer_of old) bytes (writer_of new)
    all_passed_on written = assumption

    front_passed_on : WritesFront passing_on old bytes new → WritesFront sink (writer_of old) bytes (writer_of new)
    front_passed_on stopped = assumption

  -- A body that was copied to an encoder was copied to the writer of the encoder.
  pub through_encoder : (kind : Kind) (len room place : ℕ) (old new : Decoder R) (encoder encoder' : Encoder W)
      (result : Result (Unit {0}) (RecodeError E F))
      → CopiesBody source passing_on kind len room place (sides old encoder) result (sides new encoder')
      → CopiesBody source sink kind len room place (sides_of old encoder) result (sides_of new encoder')
  through_encoder kind len room place old new encoder encoder' (Ok unit) copied = search all_passed_on
  through_encoder kind len room place old new encoder encoder' (Err (r.Read error)) copied = search all_passed_on
  through_encoder kind len room place old new encoder encoder' (Err (r.Write fault)) stops =
      search (all_passed_on, front_passed_on)

-- A copy hands on the answer of the write of a header's shortest title.
pub title_answered : {E W F : Type 0} (sink : Writer W F) (old : W) (wrote : Result (Unit {0}) F)
    (answer : Result (Unit {0}) (RecodeError E F)) (bytes : List ℕ) (header : Header) (new : W)
    → WritesBytes sink old wrote bytes new → bytes ≡ shortest_title header
    → MatchResult wrote (λ done. answer ≡ Ok done) (λ fault. IsErrAnd answer (λ error. error ≡ r.Write fault))
    → WritesHeader sink old answer header new
title_answered sink old wrote answer bytes header new writes same cases = grind arith

-- The last title of an element is the next write.
next_element : {count before : ℕ} (room : ℕ) {bytes : List ℕ} (marks : List Mark) (mark : Mark) (header : Header)
    → mark_spelling mark ≡ shortest_title header → before < count → IsRun (suc before) bytes (marks ++ mark ∷ [])
    → NextWrite count room bytes [] (spelling marks) (shortest_title header)
next_element {count} room {bytes} marks mark header spelled less run =
    let all = marks ++ mark ∷ [] in
    let whole : IsRun count bytes all ⊎ Reaches count bytes all Due = grind (arith, due) in
    Alone marks mark header spelled (elim whole [ inl all ↦ inl all | inr reach ↦ inr (Due, reach, tt) ])

module _ {R E W F : Type 0} (source : Reader R E) (sink : Writer W F) where
  pub writes_then : {writer between writer' : W} {xs ys : List ℕ} → WritesAll sink writer xs between
      → WritesAll sink between ys writer' → WritesAll sink writer (xs ++ ys) writer'
  writes_then {writer} {between} {writer'} {xs} {ys} first second =
      WritesBytes-then sink {T = Unit {0}} writer between writer' (Ok (tt {0})) xs ys first second

  -- Marks are written, and then more marks.
  pub marks_then : {writer between writer' : W} (marks others : List Mark)
      → WritesAll sink writer (spelling marks) between → WritesAll sink between (spelling others) writer'
      → WritesAll sink writer (spelling (marks ++ others)) writer'
  marks_then marks others first second = rw spelling-append (writes_then first second)

  pub mark_then : {writer between writer' : W} (marks : List Mark) (mark : Mark)
      → WritesAll sink writer (spelling marks) between → WritesAll sink between (mark_spelling mark) writer'
      → WritesAll sink writer (spelling (marks ++ mark ∷ [])) writer'
  mark_then marks mark first second = marks_then marks (mark ∷ []) first (rw append-nil second)

  -- The marks, the title of a body and a front of the body are written.
  pub front_then : {writer between titled writer' : W} (marks : List Mark) (kind : Kind) (len : ℕ) {front : List ℕ}
      → WritesAll sink writer (spelling marks) between
      → WritesAll sink between (shortest_title (kind_header kind (Some len))) titled
      → WritesAll sink titled front writer' → WritesAll sink writer (with_front marks kind len front) writer'
  front_then marks kind len all title front = writes_then all (writes_then title front)

  -- ---- the points at which a copy stops

  -- After the bytes that were copied, the copy is at this point.
  pub record StandsAt (count : ℕ) (old : Sides R W) (bytes : List ℕ) (marks : List Mark) (point : Point)
      (now : Sides R W) : Type 0 where
    pub reach : Reaches count bytes marks point
    pub copied : Copied source sink old bytes marks now
    pub strict : Strictly old.decoder (IsStrictSpelling bytes marks (due_title point))

  title_error : {count : ℕ} (room : ℕ) {old new : Sides R W} (error : Error E)
      → StopsAtTitle source sink count old error new → StopsCopy source sink count room old (r.Read error) new
  title_error room error stops = grind arith

  -- No title was pulled, so the copy stops.
  pub title_stops : {count : ℕ} (room : ℕ) {old now : Sides R W} {bytes : List ℕ} {marks : List Mark} {point : Point}
      → StandsAt count old bytes marks point now → IsAtTitle point → due_title point ≡ [] → (new : Decoder R)
      (error : Error E) → DecoderPullAnswer source now.decoder (Err error) new
      → StopsCopy source sink count room old (r.Read error) (sides new now.writer)
  title_stops room stands at_title alone new error fails =
      let strict = rw alone at stands.strict in
      title_error room error (search)

  -- A title was not written, so the copy stops. The only error of its write is that of the writer.
  pub header_stops : {count room : ℕ} {old now : Sides R W} {bytes : List ℕ} {marks : List Mark} (header : Header)
      (error : RecodeError E F) (after : W)
      → NextWrite count room bytes [] (spelling marks) (shortest_title header) → Copied source sink old bytes marks now
      → WritesHeader {E = E} sink now.writer (Err error) header after
      → StopsCopy source sink count room old error (sides now.decoder after)
  header_stops {old = old} {now} {bytes} header (r.Write fault) after next copied fails =
      let passed : ReadsPast source old.decoder (bytes ++ []) now.decoder = rw append-nil copied.passed in
      search
  header_stops header (r.Read error) after next copied fails = absurd fails

  body_error : {count : ℕ} (room : ℕ) {old new : Sides R W} (error : Error E)
      → StopsInBody source sink count room old error new → StopsCopy source sink count room old (r.Read error) new
  body_error room error stops = grind arith

  -- The copy of a body stopped after its title, so the whole copy stops.
  pub body_stops : {count : ℕ} (room : ℕ) {old between : Sides R W} {bytes : List ℕ} {marks : List Mark} {k : Kind}
      {len start : ℕ} → StandsAt count old bytes marks (BodyDue k len start) between → {titled : W}
      → WritesAll sink between.writer (shortest_title (kind_header k (Some len))) titled → (new : Sides R W)
      (error : RecodeError E F)
      → CopiesBody source sink k len room (old.decoder.offset + start) (sides between.decoder titled) (Err error) new
      → StopsCopy source sink count room old error new
  body_stops {count} room {old} {between} {bytes} {marks} {k} {len} {start} stands title new (r.Write fault) stops =
      let passed = ReadsPast-then source old.decoder between.decoder new.decoder bytes _ stands.copied.passed
      stops.passed in
      let next : NextWrite count room bytes _ _ _ = Chunk marks k len start stops.front stops.chunk stops.kept
      stands.reach stops.sound stops.within stops.filled stops.few in
      let written = front_then marks k len stands.copied.written title stops.written in
      let fails = stops.stopped in
      search
  body_stops room stands title new (r.Read error) stops = body_error room error (search)

  -- ---- the title of an element

  -- One more title was pulled.
  pub copied_pulled : {old now : Sides R W} {bytes : List ℕ} {marks : List Mark} {header : Header} {new : Decoder R}
      → Copied source sink old bytes marks now → (pulled : PullsTitle source now.decoder header new)
      → (IsSteady source old.decoder → IsSteady source new)
      → Copied source sink old (bytes ++ pulled.title) marks (sides new now.writer)
  copied_pulled {old} {now} {bytes} {header = header} {new} copied pulled steady =
      let passed = ReadsPast-pulled source old.decoder now.decoder new bytes header pulled copied.passed steady in
      search

  -- A strict decoder pulled a strict title.
  pub title_taken : {old now : Sides R W} {bytes : List ℕ} {marks : List Mark} {header : Header} {new : Decoder R}
      → Copied source sink old bytes marks now → (pulled : PullsTitle source now.decoder header new)
      → Strictly old.decoder (IsStrictTitle pulled.title header)
  title_taken {old} {now} copied pulled = λ on none. pulled.strict (copied.passed.mode ∙ on)
      (passes_settled source old.decoder now.decoder _ copied.passed none)

  -- The offset after a header is at least the length of its shortest title.
  pub pulled_covers : (old new : Decoder R) (header : Header) → PullsTitle source old header new
      → title_len header ≤ new.offset
  pulled_covers old new header pulled =
      omega (arith, pulled.offset, shortest_no_longer pulled.title header pulled.is_title)

  module _ {count before : ℕ} {old now : Sides R W} (behind : IsBehind source sink count before [] old now) where
    -- After whole elements, one more is due.
    stands_due : StandsAt count old behind.bytes behind.marks Due now
    stands_due =
        record { reach = due behind.due behind.run; copied = rw append-nil at behind.copied; strict = behind.strict }

    pub pull_stops : (room : ℕ) (new : Decoder R) (error : Error E) → DecoderPullAnswer source now.decoder (Err error) new
        → StopsCopy source sink count room old (r.Read error) (sides new now.writer)
    pull_stops room new error fails = title_stops room stands_due tt refl new error fails

  -- The copy of an element goes on after its title.
  pub element_copied : {now : Sides R W} {header : Header} (room : ℕ) (result : Result (Unit {0}) (RecodeError E F))
      (new : Sides R W) {between : Decoder R} → PullsTitle source now.decoder header between
      → (IsSteady source now.decoder → IsSteady source between)
      → CopiesBehind source sink header room (sides between now.writer) result new
      → CopiesElement source sink room now result new
  element_copied room result new pulled steady goes_on = λ count before old behind.
      let stands = stands_due behind in
      let copied = copied_pulled stands.copied pulled (λ s. steady (behind.copied.passed.steady s)) in
      goes_on count before old pulled.title pulled.is_title (title_taken behind.copied pulled) (search)

  -- ---- one element more

  added : {before : ℕ} {old new : Sides R W} {bytes : List ℕ} {marks : List Mark} (w : List ℕ) (ms : List Mark)
      → IsRun before bytes marks → Strictly old.decoder (IsStrictSpelling bytes marks []) → IsElement w ms
      → Copied source sink old (bytes ++ w) (marks ++ ms) new
      → Strictly old.decoder ((w ≡ spelling ms) × AllByRecursion IsNoSmallSimple ms)
      → CopiesRun source sink (suc before) old new
  added {before} {bytes = bytes} {marks} w ms run allowed element copied same = record {
    bytes = bytes ++ w;
    marks = marks ++ ms;
    run = add_element before bytes marks run w ms element;
    copied = copied;
    strict = λ on none. spelled_then bytes marks w ms (allowed on none) (same on none).0 (same on none).1;
  }

  module _ {count before : ℕ} {title : List ℕ} {old now : Sides R W}
      (behind : IsBehind source sink count before title old now) where
    -- The copy of a header that begins no string goes on.
    pub plain_goes_on : (room : ℕ) (header : Header) (result : Result (Unit {0}) (RecodeError E F)) (after : W)
        → IsPlain header → IsTitle title header → Strictly old.decoder (IsStrictTitle title header)
        → WritesHeader sink now.writer result header after
        → GoesOn source sink count before room old result (sides now.decoder after)
    plain_goes_on room header (Ok unit) after p t only wrote =
        let written = mark_then behind.marks (Plain header) behind.copied.written wrote in
        added title (Plain header ∷ []) behind.run behind.strict (plain header t p) (search) (λ on none.
        let first = only on none in
        (first.shortest ∙ sym (append-nil (shortest_title header)), (first.meant, tt)))
    plain_goes_on room header (Err error) after p t only wrote =
        header_stops header error after (next_element room behind.marks (Plain header) header refl behind.due
        (add_element before behind.bytes behind.marks behind.run title (Plain header ∷ []) (plain header t p)))
        behind.copied wrote

    -- ---- a string of a definite length

    module _ (k : Kind) (len room : ℕ) (t : IsTitle title (kind_header k (Some len))) where
      -- The title of the body is the next write.
      pub definite_next : NextWrite count room (behind.bytes ++ title) [] (spelling behind.marks)
          (shortest_title (kind_header k (Some len)))
      definite_next = Titled behind.marks k len _ (body k (due behind.due behind.run) t)

      -- The copy of the body gives the answer of the element.
      pub definite_goes_on : Strictly old.decoder (IsStrictTitle title (kind_header k (Some len))) → (place : ℕ)
          → place + title_len (kind_header k (Some len)) ≡ now.decoder.offset → (titled : W)
          → WritesAll sink now.writer (shortest_title (kind_header k (Some len))) titled → (new : Sides R W)
          (result : Result (Unit {0}) (RecodeError E F))
          → CopiesBody source sink k len room place (sides now.decoder titled) result new
          → GoesOn source sink count before room old result new
      definite_goes_on only place at titled wrote new (Ok unit) whole =
          let b = whole.ends.read in
          let lengths : len ≡ length b = sym whole.ends.all in
          let passed = rw append_assoc at (ReadsPast-then source old.decoder now.decoder new.decoder
          (behind.bytes ++ title) b behind.copied.passed whole.ends.passed) in
          let written = mark_then behind.marks (Whole k b) behind.copied.written
          (writes_then (rw lengths at wrote) whole.written) in
          added (title ++ b) (Whole k b ∷ []) behind.run behind.strict
          (string k (definite (rw lengths at t)) (sound_body k b whole.ends.sound)) (search) (λ on none.
          let first = rw lengths at (only on none) in
          (ap (λ (z : List ℕ). z ++ b) first.shortest ∙ sym (append-nil _), (tt, tt)))
      definite_goes_on only place at titled wrote new (Err error) stopped =
          -- The place of a body is the offset from which its shortest title would reach the body, however long its
          -- title was.
          let start = length (behind.bytes ++ title) - title_len (kind_header k (Some len)) in
          let placed : place ≡ old.decoder.offset + start = omega
          (arith, at, behind.copied.passed.offset, shortest_no_longer title _ t, length-append behind.bytes title) in
          body_stops room record {
            reach = body k (due behind.due behind.run) t;
            copied = behind.copied;
            strict = λ on none.
                spelled_title behind.bytes behind.marks title _ (behind.strict on none) (only on none).shortest;
          } wrote new error (subst (λ (n : ℕ). CopiesBody source sink k len room n (sides now.decoder titled)
          (Err error) new) placed stopped)

    -- ---- a string of indefinite length

    module _ (k : Kind) (t : IsTitle title (kind_header k None)) where
      -- The open was written.
      pub opened_within : (titled : W) → WritesAll sink now.writer (shortest_title (kind_header k None)) titled
          → IsWithin source sink count before k old (sides now.decoder titled)
      opened_within titled wrote =
          let alone = alone_bytes title (kind_header k None) t (open_alone k) in
          let passed = rw alone at behind.copied.passed in
          let written = mark_then behind.marks (Open k) behind.copied.written wrote in
          search

      -- The open is the next write.
      pub open_next : (room : ℕ) → NextWrite count room (behind.bytes ++ title) [] (spelling behind.marks)
          (shortest_title (kind_header k None))
      open_next room =
          let reach : Reaches count (behind.bytes ++ (title ++ [])) (behind.marks ++ Open k ∷ []) (In k) =
          inside behind.due behind.run (opened t none) (sound_none k) in
          Alone behind.marks (Open k) (kind_header k None) refl (inr (In k, rw append-nil at reach, tt))

  -- The break of a string was written, or was not.
  pub close_goes_on : {count before : ℕ} {old now : Sides R W} {k : Kind} (room : ℕ)
      (result : Result (Unit {0}) (RecodeError E F)) (after : W)
      → before < count → ReadsString source sink before k old now
      → WritesHeader sink now.writer result h.Break after
      → GoesOn source sink count before room old result (sides now.decoder after)
  close_goes_on {before = before} {k = k} room (Ok unit) after less read wrote =
      let run = add_element before read.bytes read.marks read.run read.element _ read.is_element in
      let written = rw append_assoc at (mark_then (read.marks ++ Open k ∷ pieces k read.bodies) Close
      read.copied.written wrote) in
      search
  close_goes_on {before = before} {k = k} room (Err error) after less read wrote =
      header_stops h.Break error after (next_element room (read.marks ++ Open k ∷ pieces k read.bodies) Close
      h.Break refl less (rw append_assoc (add_element before read.bytes read.marks read.run read.element _
      read.is_element))) read.copied wrote

  -- ---- the loop over elements

  -- One more element is due.
  pub run_behind : (count before : ℕ) (old now : Sides R W) → before < count → CopiesRun source sink before old now
      → IsBehind source sink count before [] old now
  run_behind count before old now less run =
      let copied : Copied source sink old (run.bytes ++ []) run.marks now = rw append-nil run.copied in
      search

  pub added_run : (before : ℕ) (old now : Sides R W) → CopiesRun source sink (suc before) old now
      → CopiesRun source sink (before + 1) old now
  added_run before old now added = subst (λ (n : ℕ). CopiesRun source sink n old now) (omega arith) added

  -- The error of an element stops the whole copy.
  pub one_stops : (count before room size : ℕ) (old now : Sides R W) (error : RecodeError E F)
      → IsBehind source sink count before [] old now → size ≡ room → {new : Sides R W}
      → CopiesOne source sink size now (Err error) new → CopiesElements source sink count room old (Err error) new
  one_stops count before room size old now error behind same {new} one =
      subst (λ (n : ℕ). StopsCopy source sink count n old error new) same (one.copied count before old behind)

  -- Before the first element nothing was copied.
  pub run_none : (start : Sides R W) → CopiesRun source sink 0 start start
  run_none start = search (done, ReadsPast-none source start.decoder, Appends-nil, Shrinks-zero, spelled_none)

  -- After the last element all elements were copied.
  pub copies_all : (count : ℕ) (old new : Sides R W) → CopiesRun source sink count old new
      → CopiesAll source sink count old new
  copies_all count old new run =
      let again = run_again count run.bytes run.marks run.run in
      let settled = run_settled count old.decoder new.decoder run.bytes run.marks run.run run.copied.passed.waiting in
      search
