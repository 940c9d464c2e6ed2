-- The count of a copy by a fresh decoder, as a fact of the bytes ahead.
use Rattle.std.proofs.Common.{◌≡◌, ℕ, suc, ◌<◌, ◌≤◌, ◌^◌, ◌∙◌, List, []}
use Rattle.std.proofs.Common.{◌++◌, ◌+◌, drop, take, length, Result, Ok, Err, Some, refl, sym, ap, subst, inl, arith}
use Rattle.std.proofs.Common.{append-nil, append_assoc, length-append}
use Rattle.std.proofs.Math.Seq.{take-append_seam}
use Rattle.ciborium_ll.specs.Types.Read.{Ghosts as Reader}
use Rattle.ciborium_ll.specs.Types.Write.{Ghosts as Writer}
use Rattle.ciborium_ll.specs.Types.Decoder.{Decoder}
use Rattle.ciborium_ll.specs.Types.Error.TheVariants as e
use Rattle.ciborium_ll.specs.Types.RecodeError.{RecodeError}
use Rattle.ciborium_ll.specs.Types.RecodeError.TheVariants as r
use Rattle.ciborium_ll.specs.Elements.{spelling}
use Rattle.ciborium_ll.specs.Faults.{BeginsWithElements}
use Rattle.ciborium_ll.specs.Decoding.{IsSteady}
use Rattle.ciborium_ll.specs.Recoding.{CopiesElements, CopiesRun, StopsCopy}
use Rattle.ciborium_ll.specs.RecodingTold.{HasRoom, IsReady, IsTold}
use Rattle.ciborium_ll.specs.Sides.{Sides, sides}
use Rattle.capi.specs.declared.answer.CllAnswer.{CllAnswer}
use Rattle.capi.specs.declared.answer.CllReport.{CllReport}
use Rattle.capi.specs.Answers.{ReportsElements}
use Rattle.capi.specs.Copying.{StandAtStart, buffer_size, copy_answer}
use Rattle.capi.specs.Counting.{CountsTo, CountsElements, CountsStrictTo, CountsStrictly, CountsCopy}
use Rattle.ciborium_ll_grammar.specs.declared.spelling.Spelling.{Spelling}
use Rattle.ciborium_ll_grammar.specs.declared.spelling.Spelling.TheVariants.{Any, Shortest}
use Rattle.ciborium_ll_grammar.proofs.StrictFaultLaws.{no_fault}
use Rattle.ciborium_ll.proofs.CopyingTold.{appends_told, consumes_told, shrinks_told}
use Rattle.ciborium_ll_recode.proofs.RecodeAnyhowLaws.{recode_anyhow}
use Rattle.ciborium_ll_recode.proofs.RecodeReadyLaws.{recode_told, recode_exactly, short_told}
use Rattle.ciborium_ll_recode.proofs.CopyLaws.{copies_all}
use Rattle.capi.proofs.CopyLaws.{never_too_long, same_bytes}

module _ {R E W F : Type 0} (source : Reader R E) (sink : Writer W F) where
  -- The room of a writer is less by the spelling of the elements that were copied.
  pub spelled_room : (count : ℕ) (old now : Sides R W) (room left : ℕ) (run : CopiesRun source sink count old now)
      → sink.room old.writer ≡ Some room → sink.room now.writer ≡ Some left
      → room ≡ left + length (spelling run.marks)
  spelled_room count old now room left run was is =
      let less = shrinks_told _ _ room (length (spelling run.marks)) was run.copied.written.room in
      let same : Some less.0 ≡ Some left = sym less.1 ∙ is in
      let equal : less.0 ≡ left = cc in
      omega (arith, equal, less.2)

  -- A copy of elements that stops adds its bytes after those that were written before.
  stopped_behind : (count : ℕ) (old new : Sides R W) (error : RecodeError E F) (due written : List ℕ)
      → IsTold source sink Any old due written → StopsCopy source sink count buffer_size old error new
      → (more : List ℕ) × (sink.written new.writer ≡ Some (written ++ more))
  stopped_behind count old new (r.Read (e.Io fault)) due written told stops =
      let met = recode_anyhow source sink count buffer_size old due written told new (Err (r.Read (e.Io fault)))
      stops in
      (met.stop.written, met.output)
  stopped_behind count old new (r.Read (e.Syntax at)) due written told stops =
      let met = recode_anyhow source sink count buffer_size old due written told new (Err (r.Read (e.Syntax at)))
      stops in
      (met.2.fault.written, met.2.output)
  stopped_behind count old new (r.Read e.TooLong) due written told stops =
      let met = recode_anyhow source sink count buffer_size old due written told new (Err (r.Read e.TooLong)) stops in
      (met.0.stop.written, met.0.output)
  stopped_behind count old new (r.Read e.Waiting) due written told stops = absurd stops
  stopped_behind count old new (r.Write fault) due written told stops =
      let met = recode_anyhow source sink count buffer_size old due written told new (Err (r.Write fault)) stops in
      (met.stop.written, met.output)

  -- After some elements the sides still tell the bytes ahead and the bytes written.
  told_behind : (count : ℕ) (old now : Sides R W) (due : List ℕ) (run : CopiesRun source sink count old now)
      → IsTold source sink Any old due []
      → (rest : List ℕ) × IsTold source sink Any now rest (spelling run.marks)
  told_behind count old now due run told =
      let gone = consumes_told _ _ due run.bytes told.due-told run.copied.passed.consumed in (
        gone.0,
        record {
          mode = run.copied.passed.mode ∙ told.mode;
          due-told = gone.1;
          written-told = appends_told _ _ [] (spelling run.marks) told.written-told run.copied.written.appended;
          none_waits = λ on. absurd cc;
        },
      )

  -- All bytes that were written begin with the spelling of the elements that were counted.
  counted_behind : (count : ℕ) (due : List ℕ) (old new : Sides R W) (result : Result (Unit {0}) (RecodeError E F))
      (elements whole spelled : ℕ) → IsTold source sink Any old due []
      → (counted : CountsCopy source sink count buffer_size old result new elements whole spelled)
      → (more : List ℕ) × (sink.written new.writer ≡ Some (spelling counted.run.marks ++ more))
  counted_behind count due old new (Ok done) elements whole spelled told counted =
      let output = (told_behind elements old counted.between due counted.run told).1.written-told in (
        [],
        ap (λ (s : Sides R W). sink.written s.writer) counted.ends.1 ∙ output
            ∙ ap Some (sym (append-nil (spelling counted.run.marks))),
      )
  counted_behind count due old new (Err error) elements whole spelled told counted =
      let behind = told_behind elements old counted.between due counted.run told in
      stopped_behind 1 counted.between new error behind.0 (spelling counted.run.marks) behind.1 counted.ends.2

-- The output begins with each beginning of the bytes that were written.
stands_within : (front more output before after : List ℕ) → output ≡ front ++ more → StandAtStart output before after
    → (take (length front) after ≡ front) × (length front ≤ length output)
stands_within front more output before after is stands =
    let parts : after ≡ front ++ (more ++ drop (length output) before) =
    stands ∙ ap (λ (l : List ℕ). l ++ drop (length output) before) is
    ∙ append_assoc front more (drop (length output) before) in (
      ap (take (length front)) parts ∙ take-append_seam front (more ++ drop (length output) before),
      omega (arith, ap length is, length-append front more),
    )

module _ {R E W F : Type 0} (source : Reader R E) (sink : Writer W F) (count : ℕ) (due : List ℕ)
    (old new : Decoder R) (writer writer' : W) (report : CllReport) where
  -- The premises of a copy, which hold for any count.
  abbrev pub IsReadyFor : Spelling → ℕ → Type 0
  IsReadyFor allowed n = IsReady source sink allowed n buffer_size (sides old writer) due []

  -- ---- elements

  -- The bytes begin with the elements that were copied.
  run_in_front : (allowed : Spelling) (elements : ℕ) (between : Sides R W)
      → IsTold source sink allowed (sides old writer) due []
      → (run : CopiesRun source sink elements (sides old writer) between) → old.offset ≡ 0
      → (front : BeginsWithElements Any elements due) × (between.decoder.offset ≡ length front.elements)
      × (front.marks ≡ run.marks)
  run_in_front allowed elements between told run start =
      let gone = consumes_told _ _ due run.bytes told.due-told run.copied.passed.consumed in (
        record {
          elements = run.bytes;
          marks = run.marks;
          rest = gone.0;
          run = run.run;
          is = gone.2;
          spelled = λ on. absurd cc;
        },
        omega (arith, run.copied.passed.offset, start),
        refl,
      )

  module _ (room : ℕ) (steady : IsSteady source old) (told : IsTold source sink Any (sides old writer) due [])
      (ready : (n : ℕ) → HasRoom n due room → IsReadyFor Any n) (object : length due < 2 ^ 63)
      (start : old.offset ≡ 0) (whole : report.whole ≡ new.offset → report.whole ≡ report.consumed) where
    -- The count agrees with the answer of the copy.
    counted_to : (result : Result (Unit {0}) (RecodeError E F))
        → CountsCopy source sink count buffer_size (sides old writer) result (sides new writer') report.elements
        report.whole report.spelled
        → CountsTo count due room (copy_answer result) report
    counted_to (Ok done) counted = (
      counted.ends.0,
      whole (counted.behind ∙ sym (ap (λ (s : Sides R W). s.decoder.offset) counted.ends.1)),
    )
    counted_to (Err (r.Read (e.Io fault))) counted = (
      counted.ends.0,
      λ more. no_fault Any (suc report.elements) due more
          (short_told source sink (suc report.elements) buffer_size (sides old writer) due [] steady told fault
          (sides new writer') counted.ends.1).fault,
    )
    counted_to (Err (r.Read (e.Syntax place))) counted = (
      counted.ends.0,
      λ more. no_fault Any (suc report.elements) due more
          (recode_anyhow source sink (suc report.elements) buffer_size (sides old writer) due [] told
          (sides new writer') (Err (r.Read (e.Syntax place))) counted.ends.1).2.fault,
    )
    counted_to (Err (r.Read e.TooLong)) counted = absurd (never_too_long source sink (suc report.elements) due old
        (sides new writer')
        (recode_anyhow source sink (suc report.elements) buffer_size (sides old writer) due [] told
        (sides new writer') (Err (r.Read e.TooLong)) counted.ends.1) object start)
    counted_to (Err (r.Read e.Waiting)) counted = absurd counted.ends.1
    counted_to (Err (r.Write fault)) counted = (
      counted.ends.0,
      λ more.
          let never : length (spelling more.marks) ≤ room → ⊥ = λ fits.
          recode_told source sink (suc report.elements) buffer_size (sides old writer) due []
          (ready (suc report.elements) (inl (more, fits))) (sides new writer') (Err (r.Write fault))
          counted.ends.1 in
          grind (arith, never),
    )

    pub counts_said : (result : Result (Unit {0}) (RecodeError E F)) (answer : CllAnswer)
        (elements behind spelled : ℕ) (output before after : List ℕ)
        → CountsCopy source sink count buffer_size (sides old writer) result (sides new writer') elements behind spelled
        → ReportsElements report elements behind spelled → answer ≡ copy_answer result
        → sink.written writer' ≡ Some output → report.written ≡ length output → StandAtStart output before after
        → CountsElements count due room answer after report
    counts_said result answer elements behind spelled output before after copied reports same out is stands =
        let counted : CountsCopy source sink count buffer_size (sides old writer) result (sides new writer')
        report.elements report.whole report.spelled =
        rw (reports.elements_is, reports.whole_is, reports.spelled_is) copied in
        let front = run_in_front Any report.elements counted.between told counted.run start in
        let marks : spelling counted.run.marks ≡ spelling front.0.marks = ap spelling (sym front.2) in
        let begins = counted_behind source sink count due (sides old writer) (sides new writer') result report.elements
        report.whole report.spelled told counted in
        let within = stands_within (spelling counted.run.marks) begins.0 output before after
        (same_bytes (sink.written writer') output (spelling counted.run.marks ++ begins.0) out begins.1) stands in
        record {
          front = front.0;
          ends = counted.behind ∙ front.1;
          stands = ap (λ (n : ℕ). take n after) counted.counted ∙ within.0 ∙ marks;
          spelled = counted.counted ∙ ap length marks;
          written = omega (arith, counted.counted, is, within.1);
          counts = subst (λ (x : CllAnswer). CountsTo count due room x report) (sym same) (counted_to result counted);
        }

  -- ---- elements in their shortest spelling

  module _ (ready : (n : ℕ) → IsReadyFor Shortest n) (start : old.offset ≡ 0)
      (whole : report.whole ≡ new.offset → report.whole ≡ report.consumed) where
    not_one_more : (error : RecodeError E F)
        → CopiesElements source sink (suc report.elements) buffer_size (sides old writer) (Err error)
        (sides new writer')
        → BeginsWithElements Shortest (suc report.elements) due → ⊥
    not_one_more error stops more =
        let ok = (recode_exactly source sink (suc report.elements) buffer_size (sides old writer) due []
        (ready (suc report.elements)) (sides new writer') (Err error) stops).1 more in
        cc

    strictly_to : (result : Result (Unit {0}) (RecodeError E F)) (spelled : ℕ)
        → CountsCopy source sink count buffer_size (sides old writer) result (sides new writer') report.elements
        report.whole spelled
        → CountsStrictTo count due (copy_answer result) report
    strictly_to (Ok done) spelled counted = (
      counted.ends.0,
      whole (counted.behind ∙ sym (ap (λ (s : Sides R W). s.decoder.offset) counted.ends.1)),
    )
    strictly_to (Err (r.Read (e.Io fault))) spelled counted =
        (counted.ends.0, not_one_more (r.Read (e.Io fault)) counted.ends.1)
    strictly_to (Err (r.Read (e.Syntax place))) spelled counted =
        (counted.ends.0, not_one_more (r.Read (e.Syntax place)) counted.ends.1)
    strictly_to (Err (r.Read e.TooLong)) spelled counted =
        (counted.ends.0, not_one_more (r.Read e.TooLong) counted.ends.1)
    strictly_to (Err (r.Read e.Waiting)) spelled counted =
        (counted.ends.0, not_one_more (r.Read e.Waiting) counted.ends.1)
    strictly_to (Err (r.Write fault)) spelled counted =
        (counted.ends.0, not_one_more (r.Write fault) counted.ends.1)

    pub strictly_said : (result : Result (Unit {0}) (RecodeError E F)) (answer : CllAnswer)
        (elements behind spelled : ℕ)
        → CountsCopy source sink count buffer_size (sides old writer) result (sides new writer') elements behind spelled
        → ReportsElements report elements behind 0 → answer ≡ copy_answer result
        → CountsStrictly count due answer report
    strictly_said result answer elements behind spelled copied reports same =
        let counted : CountsCopy source sink count buffer_size (sides old writer) result (sides new writer')
        report.elements report.whole spelled = rw (reports.elements_is, reports.whole_is) copied in
        let all = copies_all source sink report.elements (sides old writer) counted.between counted.run in
        let stood = recode_told source sink report.elements buffer_size (sides old writer) due []
        (ready report.elements) counted.between (Ok (tt {0})) all in
        record {
          front = stood.front;
          ends = omega (arith, counted.behind, stood.offset, start);
          none_spelled = reports.spelled_is;
          counts = subst (λ (x : CllAnswer). CountsStrictTo count due x report) (sym same)
              (strictly_to result spelled counted);
        }
