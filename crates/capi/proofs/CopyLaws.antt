-- The result of a copy by a fresh decoder, as a fact of the bytes ahead.
use Rattle.std.proofs.Common.{◌≡◌, ℕ, ◌+◌, ◌<◌, ◌≤◌, ◌^◌, ◌∙◌, ◌↔◌, IsTrue, IsOk, max, List, [], ◌++◌}
use Rattle.std.proofs.Common.{drop}
use Rattle.std.proofs.Common.{length, Option, Result, Ok, Err, Some, ap, sym, subst, refl, arith, length-append}
use Rattle.ciborium_ll_grammar.specs.declared.spelling.Spelling.{Spelling}
use Rattle.ciborium_ll_grammar.specs.declared.spelling.Spelling.TheVariants.{Any, Shortest}
use Rattle.ciborium_ll.specs.Types.Read.{Ghosts as Reader}
use Rattle.ciborium_ll.specs.Types.Write.{Ghosts as Writer}
use Rattle.ciborium_ll.specs.Types.SliceWriter.{SliceWriter}
use Rattle.ciborium_ll.specs.Types.Decoder.{Decoder}
use Rattle.ciborium_ll.specs.Types.Error.TheVariants as e
use Rattle.ciborium_ll.specs.Types.RecodeError.{RecodeError}
use Rattle.ciborium_ll.specs.Types.RecodeError.TheVariants as r
use Rattle.ciborium_ll.specs.Elements.{Mark, spelling}
use Rattle.ciborium_ll.specs.Faults.{Point, Due, In, BodyDue, Syntax}
use Rattle.ciborium_ll.specs.Decoding.{IsFreshAs, IsSteady, offset_limit}
use Rattle.ciborium_ll.specs.Recoding.{CopiesElements, StopsWriting}
use Rattle.ciborium_ll.specs.RecodingTold.{HasRoom, IsReady, IsTold, RecodesTold, StopsAt, StopsShort}
use Rattle.ciborium_ll.specs.Sides.{Sides, sides}
use Rattle.ciborium_ll.specs.Slices.{slice_before, slice_target}
use Rattle.ciborium_ll.specs.Transfer.{Target}
use Rattle.capi.specs.declared.answer.CllAnswer.{CllAnswer}
use Rattle.capi.specs.declared.answer.CllAnswer.TheVariants as a
use Rattle.capi.specs.declared.answer.CllReport.{CllReport}
use Rattle.capi.specs.Answers.{ReportsCopy}
use Rattle.capi.specs.Checking.{Checks}
use Rattle.capi.specs.Copying.{CopiesInto, CopiesAnyhow, StandAtStart, StopsForRoom, buffer_size}
use Rattle.capi.specs.Copying.{copy_answer, copy_place}
use Rattle.ciborium_ll.proofs.CopyingTold.{shrinks_told}
use Rattle.ciborium_ll_decoder.proofs.PremiseLaws.{fresh_can_read}
use Rattle.ciborium_ll_recode.proofs.RecodeAnyhowLaws.{recode_anyhow, unwritten}
use Rattle.ciborium_ll_recode.proofs.RecodeReadyLaws.{short_told}
use Rattle.capi.proofs.PullLaws.{due_ahead}

-- A reader or a writer tells only one list of bytes.
pub same_bytes : (known : Option (List ℕ)) (one other : List ℕ) → known ≡ Some one → known ≡ Some other → one ≡ other
same_bytes known one other p q = let same : Some one ≡ Some other = sym p ∙ q in cc

same_length : (known : Option (List ℕ)) (one other : List ℕ) → known ≡ Some one → known ≡ Some other → length one
    ≡ length other
same_length known one other p q = ap length (same_bytes known one other p q)

-- The output begins with the bytes that a writer tells, if it begins with those that the writer wrote.
stands_too : (known : Option (List ℕ)) (one other before after : List ℕ) → known ≡ Some one → known ≡ Some other
    → StandAtStart one before after → StandAtStart other before after
stands_too known one other before after p q stands =
    subst (λ (bytes : List ℕ). StandAtStart bytes before after) (same_bytes known one other p q) stands

-- A copy consumes no more bytes than are ahead.
no_more : (marks : List Mark) (point : Point) (ahead written : List ℕ) (consumed : ℕ)
    → StopsAt marks point ahead written consumed → consumed ≤ length ahead
no_more marks Due ahead written consumed stops = omega (arith, stops.1)
no_more marks (In kind) ahead written consumed stops = omega (arith, stops.1)
no_more marks (BodyDue kind len start) ahead written consumed stops = omega (arith, stops.7)

-- A writer has the target that it tells.
pub same_target : {one other : Target} → Some one ≡ Some other → one ≡ other
same_target same = cc

-- A writer that stayed on its slice left the slice as it was after the bytes that it wrote.
pub stands_behind : (behind first : SliceWriter) (written out after : List ℕ) → slice_target behind ≡ slice_target first
    → slice_before first ≡ out → behind.buffer.now ≡ written ++ drop (length written) (slice_before behind)
    → after ≡ behind.buffer.now → StandAtStart written out after
stands_behind behind first written out after kept begun slice ended =
    ended ∙ slice ∙ ap (λ l. written ++ drop (length written) l) (ap (λ t. t.before) kept ∙ begun)

module _ {R E W F : Type 0} (source : Reader R E) (sink : Writer W F) where
  pub told_to_copy : (allowed : Spelling) (reader : R) (decoder : Decoder R) (writer : W) (due : List ℕ)
      → IsFreshAs allowed reader 0 decoder
      → source.ahead reader ≡ Some due → sink.written writer ≡ Some []
      → IsTold source sink allowed (sides decoder writer) due []
  told_to_copy allowed reader decoder writer due fresh ahead output = record {
    mode = fresh.mode;
    due-told = due_ahead source allowed reader decoder fresh due ahead;
    written-told = output;
    none_waits = λ on. fresh.none_waits;
  }

  pub ready_to_copy : (allowed : Spelling) (count size room : ℕ) (reader : R) (decoder : Decoder R) (writer : W)
      (due : List ℕ)
      → IsFreshAs allowed reader 0 decoder → IsTrue (source.steady reader) → source.ahead reader ≡ Some due
      → sink.written writer ≡ Some [] → sink.room writer ≡ Some room → HasRoom count due room
      → length due + 8 < offset_limit → length due + size < offset_limit
      → IsReady source sink allowed count size (sides decoder writer) due []
  ready_to_copy allowed count size room reader decoder writer due fresh steady ahead output space enough title chunk =
      record {
        mode = fresh.mode;
        can_read = fresh_can_read source size reader decoder due fresh steady ahead title chunk;
        can_write = record { told = output; room = room; room-told = space; enough = enough };
      }

  copy_reported :
      (count : ℕ) (due : List ℕ) (old new : Decoder R) (writer' : W) (result : Result (Unit {0}) (RecodeError E F))
      (report : CllReport) (output before after : List ℕ)
      → RecodesTold source sink Any count due [] old result (sides new writer') → old.offset ≡ 0
      → sink.written writer' ≡ Some output → ReportsCopy report new.offset (length output) (copy_place result)
      → StandAtStart output before after → CopiesInto count due before (copy_answer result) after report
  copy_reported count due old new writer' (Ok done) report output before after told start out reports stands = (
    told.front,
    stands_too (sink.written writer') output (spelling told.front.marks) before after out told.output stands,
    record {
      consumed_is = omega (arith, reports.consumed_is, told.offset, start);
      written_is = reports.written_is ∙ same_length (sink.written writer') output (spelling told.front.marks) out
          told.output;
      place_is = reports.place_is;
    },
  )
  copy_reported count due old new writer' (Err (r.Read (e.Io fault))) report output before after told start out
      reports stands = (
        told.fault,
        told.answered,
        stands_too (sink.written writer') output told.fault.written before after out told.output stands,
        record {
          consumed_is = omega (arith, reports.consumed_is, told.offset, start);
          written_is = reports.written_is
              ∙ same_length (sink.written writer') output told.fault.written out told.output;
          place_is = refl;
        },
      )
  copy_reported count due old new writer' (Err (r.Read (e.Syntax place))) report output before after told start out
      reports stands =
      let named : told.0 ≡ report.place = omega (arith, told.1, start, reports.place_is) in
      let met = told.2 in (
        met.fault,
        met.answered ∙ ap Syntax named,
        stands_too (sink.written writer') output met.fault.written before after out met.output stands,
        record {
          consumed_is = omega (arith, reports.consumed_is, met.offset, start);
          written_is = reports.written_is ∙ same_length (sink.written writer') output met.fault.written out met.output;
          place_is = refl;
        },
      )
  copy_reported count due old new writer' (Err (r.Read e.TooLong)) report output before after told start out
      reports stands = absurd told
  copy_reported count due old new writer' (Err (r.Read e.Waiting)) report output before after told start out
      reports stands = absurd told
  copy_reported count due old new writer' (Err (r.Write fault)) report output before after told start out
      reports stands = absurd told

  -- A writer that tells its room failed because the next thing to write did not fit.
  room_stops : (count room : ℕ) (due : List ℕ) (old new : Sides R W) → IsTold source sink Any old due []
      → sink.room old.writer ≡ Some room → StopsWriting source sink count buffer_size old new
      → (for_room : StopsForRoom count due room) × (sink.written new.writer ≡ Some for_room.stop.written)
      × (new.decoder.offset ≡ old.decoder.offset + (length for_room.stop.before + length for_room.stop.read))
  room_stops count room due old new told space stops =
      let all = unwritten source sink count buffer_size old due [] told new stops in
      let left = shrinks_told _ _ room (length stops.whole) space stops.written.room in
      let less : left.0 < length stops.next = rw left.1 at stops.fails.full in (
        record { stop = all.stop; fits = omega (arith, left.2); lacks = omega (arith, left.2, less) },
        all.output,
        omega (arith, all.offset),
      )

  -- No bytes in memory make the offset pass its greatest number.
  pub never_too_long : (count : ℕ) (due : List ℕ) (old : Decoder R) (new : Sides R W)
      → StopsShort source sink count due [] old new × (offset_limit ≤ new.decoder.offset + max 8 buffer_size)
      → length due < 2 ^ 63 → old.offset ≡ 0 → ⊥
  never_too_long count due old new told object start =
      let stop = told.0.stop in
      let parts = ap length stop.is in
      let few = no_more stop.marks stop.point stop.ahead stop.written stop.consumed stop.stops in
      let full : 2 ^ 64 ≤ new.decoder.offset + max 8 buffer_size = told.1 in
      omega (arith, object, parts, few, full, told.0.offset, start, length-append stop.before stop.ahead)

  anyhow_reported :
      (count : ℕ) (due : List ℕ) (old new : Decoder R) (writer writer' : W)
      (result : Result (Unit {0}) (RecodeError E F)) (report : CllReport) (output before after : List ℕ)
      → CopiesElements source sink count buffer_size (sides old writer) result (sides new writer')
      → IsSteady source old → IsTold source sink Any (sides old writer) due []
      → sink.room writer ≡ Some (length before) → length due < 2 ^ 63 → old.offset ≡ 0
      → sink.written writer' ≡ Some output → ReportsCopy report new.offset (length output) (copy_place result)
      → StandAtStart output before after → CopiesAnyhow count due before (copy_answer result) after report
  anyhow_reported count due old new writer writer' (Ok done) report output before after copied steady told space
      object start out reports stands =
      copy_reported count due old new writer' (Ok done) report output before after
      (recode_anyhow source sink count buffer_size (sides old writer) due [] told (sides new writer') (Ok done)
      copied)
      start out reports stands
  anyhow_reported count due old new writer writer' (Err (r.Read (e.Io fault))) report output before after copied
      steady told space object start out reports stands =
      copy_reported count due old new writer' (Err (r.Read (e.Io fault))) report output before after
      (short_told source sink count buffer_size (sides old writer) due [] steady told fault (sides new writer') copied)
      start out reports stands
  anyhow_reported count due old new writer writer' (Err (r.Read (e.Syntax place))) report output before after copied
      steady told space object start out reports stands =
      copy_reported count due old new writer' (Err (r.Read (e.Syntax place))) report output before after
      (recode_anyhow source sink count buffer_size (sides old writer) due [] told (sides new writer')
      (Err (r.Read (e.Syntax place))) copied)
      start out reports stands
  anyhow_reported count due old new writer writer' (Err (r.Read e.TooLong)) report output before after copied steady
      told space object start out reports stands =
      absurd (never_too_long count due old (sides new writer')
      (recode_anyhow source sink count buffer_size (sides old writer) due [] told (sides new writer')
      (Err (r.Read e.TooLong)) copied) object start)
  anyhow_reported count due old new writer writer' (Err (r.Read e.Waiting)) report output before after copied steady
      told space object start out reports stands = absurd copied
  anyhow_reported count due old new writer writer' (Err (r.Write fault)) report output before after copied steady told
      space object start out reports stands =
      let met = room_stops count (length before) due (sides old writer) (sides new writer') told space copied in (
        met.0,
        stands_too (sink.written writer') output met.0.stop.written before after out met.1 stands,
        record {
          consumed_is = omega (arith, reports.consumed_is, met.2, start);
          written_is = reports.written_is ∙ same_length (sink.written writer') output met.0.stop.written out met.1;
          place_is = reports.place_is;
        },
      )

  pub copy_said :
      (count : ℕ) (due : List ℕ) (old new : Decoder R) (writer' : W) (result : Result (Unit {0}) (RecodeError E F))
      (report : CllReport) (output before after : List ℕ)
      (answer : CllAnswer) (place behind : ℕ) → RecodesTold source sink Any count due [] old result (sides new writer')
      → old.offset ≡ 0 → sink.written writer' ≡ Some output → answer ≡ copy_answer result → place ≡ copy_place result
      → behind ≡ new.offset → ReportsCopy report behind (length output) place
      → StandAtStart output before after → CopiesInto count due before answer after report
  copy_said count due old new writer' result report output before after answer place behind told start out same
      named at reports stands =
      let said = copy_reported count due old new writer' result report output before after told start out record {
        consumed_is = reports.consumed_is ∙ at;
        written_is = reports.written_is;
        place_is = reports.place_is ∙ named;
      } stands in
      subst (λ (x : CllAnswer). CopiesInto count due before x after report) (sym same) said

  pub anyhow_said :
      (count : ℕ) (due : List ℕ) (old new : Decoder R) (writer writer' : W)
      (result : Result (Unit {0}) (RecodeError E F)) (report : CllReport) (output before after : List ℕ)
      (answer : CllAnswer) (place behind : ℕ)
      → CopiesElements source sink count buffer_size (sides old writer) result (sides new writer')
      → IsSteady source old → IsTold source sink Any (sides old writer) due []
      → sink.room writer ≡ Some (length before) → length due < 2 ^ 63 → old.offset ≡ 0
      → sink.written writer' ≡ Some output → answer ≡ copy_answer result → place ≡ copy_place result
      → behind ≡ new.offset → ReportsCopy report behind (length output) place
      → StandAtStart output before after → CopiesAnyhow count due before answer after report
  anyhow_said count due old new writer writer' result report output before after answer place behind copied steady
      told space object start out same named at reports stands =
      let said = anyhow_reported count due old new writer writer' result report output before after copied steady told
      space object start out
      record {
        consumed_is = reports.consumed_is ∙ at;
        written_is = reports.written_is;
        place_is = reports.place_is ∙ named;
      } stands in
      subst (λ (x : CllAnswer). CopiesAnyhow count due before x after report) (sym same) said

  check_reported :
      (count : ℕ) (due : List ℕ) (old new : Decoder R) (writer' : W) (result : Result (Unit {0}) (RecodeError E F))
      (report : CllReport) → RecodesTold source sink Shortest count due [] old result (sides new writer')
      → old.offset ≡ 0
      → ReportsCopy report new.offset 0 (copy_place result) → Checks count due (copy_answer result) report
  check_reported count due old new writer' (Ok done) report told start reports = (
    told.front,
    record {
      consumed_is = omega (arith, reports.consumed_is, told.offset, start);
      written_is = reports.written_is;
      place_is = reports.place_is;
    },
  )
  check_reported count due old new writer' (Err (r.Read (e.Io fault))) report told start reports = (
    told.fault,
    told.answered,
    record {
      consumed_is = omega (arith, reports.consumed_is, told.offset, start);
      written_is = reports.written_is;
      place_is = refl;
    },
  )
  check_reported count due old new writer' (Err (r.Read (e.Syntax place))) report told start reports =
      let named : told.0 ≡ report.place = omega (arith, told.1, start, reports.place_is) in
      let met = told.2 in (
        met.fault,
        met.answered ∙ ap Syntax named,
        record {
          consumed_is = omega (arith, reports.consumed_is, met.offset, start);
          written_is = reports.written_is;
          place_is = refl;
        },
      )
  check_reported count due old new writer' (Err (r.Read e.TooLong)) report told start reports = absurd told
  check_reported count due old new writer' (Err (r.Read e.Waiting)) report told start reports = absurd told
  check_reported count due old new writer' (Err (r.Write fault)) report told start reports = absurd told

  pub check_said :
      (count : ℕ) (due : List ℕ) (old new : Decoder R) (writer' : W) (result : Result (Unit {0}) (RecodeError E F))
      (report : CllReport) (answer : CllAnswer) (place behind : ℕ)
      → RecodesTold source sink Shortest count due [] old result (sides new writer') → old.offset ≡ 0
      → answer ≡ copy_answer result → place ≡ copy_place result → behind ≡ new.offset
      → ReportsCopy report behind 0 place → Checks count due answer report
  check_said count due old new writer' result report answer place behind told start same named at reports =
      let said = check_reported count due old new writer' result report told start record {
        consumed_is = reports.consumed_is ∙ at;
        written_is = reports.written_is;
        place_is = reports.place_is ∙ named;
      } in
      subst (λ (x : CllAnswer). Checks count due x report) (sym same) said

-- The answer is `Ok` exactly if the copy succeeded.
copy_answers_ok : {E F : Type 0} (result : Result (Unit {0}) (RecodeError E F))
    → (copy_answer result ≡ a.Ok) ↔ IsOk result
copy_answers_ok (Ok done) = (λ same. cc, λ ok. refl)
copy_answers_ok (Err (r.Read (e.Io fault))) = (λ same. absurd cc, λ ok. absurd cc)
copy_answers_ok (Err (r.Read (e.Syntax place))) = (λ same. absurd cc, λ ok. absurd cc)
copy_answers_ok (Err (r.Read e.TooLong)) = (λ same. absurd cc, λ ok. absurd cc)
copy_answers_ok (Err (r.Read e.Waiting)) = (λ same. absurd cc, λ ok. absurd cc)
copy_answers_ok (Err (r.Write fault)) = (λ same. absurd cc, λ ok. absurd cc)

pub copy_exactly : {E F Holds : Type 0} (result : Result (Unit {0}) (RecodeError E F)) (answer : CllAnswer) → answer
    ≡ copy_answer result
    → IsOk result ↔ Holds → (answer ≡ a.Ok) ↔ Holds
copy_exactly result answer same exact =
    let ok = copy_answers_ok result in (λ is. exact.0 (ok.0 (sym same ∙ is)), λ holds. same ∙ ok.1 (exact.1 holds))
