-- A copy of elements if bytes are told, whichever side fails: how far the copy came, and the stop there.
use Rattle.std.proofs.Common.{◌≡◌, ℕ, ◌+◌, ◌-◌, ◌≤◌, List, [], ◌∷◌, ◌++◌, length, take, drop, Some, refl, sym, ap}
use Rattle.std.proofs.Common.{subst, ◌^◌, max, None, Result, Ok, Err, ◌∙◌, inl, inr, arith, append_assoc}
use Rattle.std.proofs.Common.{length-append}
use Rattle.std.proofs.Math.Seq.{drop-append_seam}
use Rattle.std.proofs.lemmas.Bool.{cases_lt}
use Rattle.std.proofs.Math.Nat.{le-max_left, le-max_right}
use Rattle.std.proofs.lemmas.List.{take-append-drop}
use Rattle.ciborium_ll_decoder.specs.declared.dec.Decoder.{Decoder}
use Rattle.ciborium_ll_decoder.specs.declared.copy.RecodeError.{RecodeError}
use Rattle.ciborium_ll_decoder.specs.declared.copy.RecodeError.TheVariants as r
use Rattle.ciborium_ll_decoder.proofs.NestLaws.{alone_bytes, open_alone, open_length}
use Rattle.ciborium_ll_recode.specs.Recoding.{CopiesElements, StopsTooDeep, StopsWriting, Copied, CopiesRun}
use Rattle.ciborium_ll_recode.specs.Recoding.{StopsAtTitle, StopsAtOther, StopsInBody}
use Rattle.ciborium_ll_recode.specs.RecodingTold.{StopInReading, StopsAt, StopsShort, StopsUnwritten, RecodesAnyhow}
use Rattle.ciborium_ll_recode.specs.RecodingTold.{IsTold, CopiesFront, MeetsFault}
use Rattle.std.specs.Io.KnownBytes.{Consumes}
use Rattle.ciborium_ll_io.specs.declared.io.Read.{Ghosts as Reader}
use Rattle.ciborium_ll_io.specs.declared.io.Write.{Ghosts as Writer}
use Rattle.ciborium_ll_decoder.specs.declared.dec.Error.{Error}
use Rattle.ciborium_ll_decoder.specs.declared.dec.Error.TheVariants as e
use Rattle.ciborium_ll_grammar.specs.declared.spelling.Spelling.{Spelling}
use Rattle.ciborium_ll_grammar.specs.declared.spelling.Spelling.TheVariants.{Shortest}
use Rattle.ciborium_ll_grammar.specs.Title.{BeginsRefused}
use Rattle.ciborium_ll_grammar.specs.Strings.{Kind, Text, kind_header}
use Rattle.ciborium_ll_text.specs.Text.{IsCharacters, BeginsNoText}
use Rattle.ciborium_ll_grammar.specs.Elements.{Mark, spelling, IsStrictSpelling}
use Rattle.ciborium_ll_grammar.specs.Items.{IsTakenTitle}
use Rattle.ciborium_ll_grammar.specs.Faults.{Point, BodyDue, IsRefusedIn, Reaches, due_title, with_front, Answer}
use Rattle.ciborium_ll_grammar.specs.Faults.{Syntax, FirstFault, NoTitle, LongTitle, OtherTitle, DamagedText}
use Rattle.ciborium_ll_grammar.specs.Faults.{CutDamagedText, HasFault, BeginsWithElements}
use Rattle.ciborium_ll_decoder.specs.Decoding.{Begins, view, Strictly, offset_limit, next_read}
use Rattle.ciborium_ll_decoder.specs.Finishing.{IsNoText, BeginsRest}
use Rattle.ciborium_ll_decoder.specs.BodyCopies.{Sides}
use Rattle.ciborium_ll_grammar.proofs.ElementLaws.{run_again}
use Rattle.ciborium_ll_decoder.proofs.DamageLaws.{damage_read}
use Rattle.ciborium_ll_decoder.proofs.ToldLaws.{consumes_told, next_read_small}
use Rattle.ciborium_ll_io.proofs.WriteLaws.{appends_told}
use Rattle.ciborium_ll_recode.proofs.CopyLaws.{front_then, run_settled, run_still}
use Rattle.ciborium_ll_text.proofs.Lists.{front_of, front_behind}
use Rattle.ciborium_ll_text.proofs.FrontLaws.{no_text_behind}

-- A text body that is no text is a fault.
damage : (allowed : Spelling) (bytes : List ℕ) (marks : List Mark) (len start : ℕ)
    (read front more ahead behind : List ℕ)
    → ahead ≡ read ++ behind → read ≡ front ++ more → IsCharacters front → length read ≤ len → IsNoText [] len read
    → FirstFault allowed bytes marks (BodyDue Text len start) ahead (Syntax start) (with_front marks Text len front)
    (length read)
damage allowed bytes marks len start read front more ahead behind split e text within (inl whole) =
    let taken : take len ahead ≡ read = front_of len ahead read behind split whole.0 in
    DamagedText front more (omega (arith, whole.0, ap length split, length-append {A = ℕ}))
    (λ u. whole.1 (subst IsCharacters taken u)) (taken ∙ e) text (omega (arith, ap length e, length-append {A = ℕ}))
    within
damage allowed bytes marks len start read front more ahead behind split e text within (inr begins) =
    let more_behind = λ (z : List ℕ). ap (λ (v : List ℕ). v ++ z) e ∙ append_assoc front more z in
    elim (cases_lt (length ahead) len) [
      | inl cut ↦ CutDamagedText front (more ++ behind) cut
          (subst BeginsNoText (sym split) (no_text_behind read behind begins)) (split ∙ more_behind behind) text
          (omega (arith, ap length e, length-append {A = ℕ})) (omega (arith, ap length split, length-append {A = ℕ}))
      | inr all ↦ (
          let rest = take (len - length read) behind in
          let taken : take len ahead ≡ read ++ rest = front_behind len ahead read behind split within in
          DamagedText front (more ++ rest) all (λ u. begins rest (subst IsCharacters taken u))
          (taken ∙ more_behind rest) text (omega (arith, ap length e, length-append {A = ℕ})) within
          )
    ]

module _ {R E W F : Type 0} {allowed : Spelling} (source : Reader R E) (sink : Writer W F) (count room : ℕ)
    (old : Sides R W) (due written : List ℕ) where
  module _ (told : IsTold source sink allowed old due written) where
    -- How far a copy came.
    pub record Came (bytes : List ℕ) (marks : List Mark) (now : Sides R W) : Type 0 where
      pub rest : List ℕ
      pub parts : due ≡ bytes ++ rest
      pub left : view source now.decoder ≡ Some rest
      pub output : sink.written now.writer ≡ Some (written ++ spelling marks)

    pub came : {bytes : List ℕ} {marks : List Mark} {now : Sides R W} → Copied source sink old bytes marks now
        → Came bytes marks now
    came {bytes} {marks} copied =
        let gone = consumes_told _ _ due bytes told.due-told copied.passed.consumed in
        let output = appends_told _ _ written (spelling marks) told.written-told copied.written.appended in
        search

    all_told : (new : Sides R W) → CopiesRun source sink count old new
        → CopiesFront source sink allowed count due written old.decoder new
    all_told new all =
        let c = came all.copied in
        let spelled = λ (on : allowed ≡ Shortest). all.strict (told.mode ∙ on) (told.none_waits on) in
        let front : BeginsWithElements allowed count due = search in
        record {
          front = front;
          output = c.output;
          again = (run_again count all.bytes all.marks all.run).run;
          left = c.left;
          offset = all.copied.passed.offset;
          settled = run_settled count old.decoder new.decoder all.bytes all.marks all.run all.copied.passed.waiting;
          still = run_still source count old.decoder new.decoder all.bytes all.marks all.run all.copied.passed;
        }

    -- After the bytes that were copied, the bytes `read` were consumed. In all, `out` was written.
    module _ {bytes : List ℕ} {marks : List Mark} {point : Point} {now : Sides R W}
        (reach : Reaches count bytes marks point) (copied : Copied source sink old bytes marks now) (new : Sides R W)
        (read : List ℕ) (offset : new.decoder.offset ≡ now.decoder.offset + length read) (out : List ℕ)
        (output : sink.written new.writer ≡ Some (written ++ out)) where
      -- The copy met a fault.
      pub met : Strictly old.decoder (IsStrictSpelling bytes marks (due_title point))
          → Consumes (view source now.decoder) (view source new.decoder) read → (answer : Answer)
          → ((ahead behind : List ℕ) → view source now.decoder ≡ Some ahead → view source new.decoder ≡ Some behind
          → ahead ≡ read ++ behind → FirstFault allowed bytes marks point ahead answer out (length read))
          → MeetsFault source sink allowed count due written answer old.decoder new
      met strictly consumed answer fault =
          let c = came copied in
          let gone = consumes_told _ _ c.rest read c.left consumed in
          let at = fault c.rest gone.0 c.left gone.1 gone.2 in
          let spelled = λ (on : allowed ≡ Shortest). strictly (told.mode ∙ on) (told.none_waits on) in
          let met : HasFault allowed count due = search in
          record {
            fault = met;
            answered = refl;
            output = output;
            left = gone.1 ∙ ap Some (sym (ap (drop (length read)) gone.2 ∙ drop-append_seam read gone.0));
            offset = omega (arith, offset, copied.passed.offset);
          }

      -- The copy stopped without a fault.
      short : ((ahead : List ℕ) → view source now.decoder ≡ Some ahead → StopsAt marks point ahead out (length read))
          → StopsShort source sink count due written old.decoder new
      short stops =
          let c = came copied in
          let at = stops c.rest c.left in
          let stop : StopInReading count due = search in
          record { stop = stop; output = output; offset = omega (arith, offset, copied.passed.offset) }

    -- The copy met a title or a body that is not part of the grammar.
    abbrev MeetsSyntax : ℕ → Sides R W → Type 0
    MeetsSyntax at new = (start : ℕ) × (at ≡ old.decoder.offset + start)
        × MeetsFault source sink allowed count due written (Syntax start) old.decoder new

    -- If a title is due, no title of a body is under way.
    pub title_spelled : {error : Error E} {new : Sides R W} (stops : StopsAtTitle source sink count old error new)
        → Strictly old.decoder (IsStrictSpelling stops.bytes stops.marks (due_title stops.point))
    title_spelled stops = λ on none.
        let title = stops.at_title in
        let spelled = stops.strict on none in
        grind arith

    -- The copy met a byte that begins no title, or a title that a strict decoder refuses.
    no_title_told : (at : ℕ) (new : Sides R W) → StopsAtTitle source sink count old (e.Syntax at) new
        → MeetsSyntax at new
    no_title_told at new stops =
        let output = (came stops.copied).output in
        let place = stops.copied.passed.offset in
        elim stops.fails [
          | inl refused ↦ (
            length stops.bytes,
            refused.place ∙ place,
            met stops.reaches stops.copied new (refused.byte ∷ []) refused.offset _ output (title_spelled stops)
                refused.bytes (Syntax (length stops.bytes)) (λ ahead behind a b split.
                NoTitle stops.at_title (subst BeginsRefused (sym split) refused.refused)),
          )
          | inr longer ↦ (
            length stops.bytes,
            longer.place ∙ place,
            met stops.reaches stops.copied new longer.title longer.offset _ output (title_spelled stops)
                longer.bytes (Syntax (length stops.bytes)) (λ ahead behind a b split.
                LongTitle longer.header behind stops.at_title longer.is_title
                (subst (λ (b : Spelling). IsTakenTitle b longer.title longer.header → ⊥)
                (sym longer.strict ∙ (stops.copied.passed.mode ∙ told.mode)) longer.not_strict) split),
          )
        ]

    other_title_told : (at : ℕ) (new : Sides R W) → StopsAtOther source sink count old at new → MeetsSyntax at new
    other_title_told at new stops =
        let pulled = stops.other.pulled in (
          length stops.bytes,
          stops.other.place ∙ stops.copied.passed.offset,
          met stops.reaches stops.copied new pulled.title pulled.offset _ (came stops.copied).output stops.strict
              pulled.bytes (Syntax (length stops.bytes)) (λ ahead behind a b split.
              OtherTitle stops.other.header behind pulled.is_title
              (subst (λ (b : Spelling). IsRefusedIn b stops.kind stops.other.header)
              (stops.copied.passed.mode ∙ told.mode) stops.other.refused) split),
        )

    -- The bytes that are written up to a front of a body.
    pub front_output : {error : Error E} (new : Sides R W) (stops : StopsInBody source sink count room old error new)
        → sink.written new.writer
        ≡ Some (written ++ with_front stops.marks stops.kind stops.len stops.stopped.ends.part.front)
    front_output new stops =
        appends_told _ _ written _ told.written-told (front_then source sink stops.marks stops.kind stops.len
        stops.copied.written stops.title stops.stopped.written).appended

    damaged_told : (at : ℕ) (new : Sides R W) → StopsInBody source sink count room old (e.Syntax at) new
        → MeetsSyntax at new
    damaged_told at new stops =
        let body = damage_read source stops.kind [] stops.len room (old.decoder.offset + stops.start) at
        stops.between.decoder new.decoder stops.stopped.ends in (
          stops.start,
          stops.stopped.ends.stops.0,
          met stops.reaches stops.copied new body.read body.passed.offset _ (front_output new stops) stops.strict
              body.passed.consumed (Syntax stops.start) (λ ahead behind a b split.
              subst (λ (k : Kind). FirstFault allowed stops.bytes stops.marks (BodyDue k stops.len stops.start) ahead
              (Syntax stops.start) (with_front stops.marks k stops.len body.front) (length body.read))
              (sym body.textual) (damage allowed stops.bytes stops.marks stops.len stops.start body.read body.front
              body.more ahead behind split body.parts body.sound body.within body.no_text)),
        )

    -- ---- stops without a fault

    -- All bytes that were read of a body are consumed.
    abbrev pub in_body : (marks : List Mark) {k : Kind} {len : ℕ} (start : ℕ) {between after : Decoder R}
        (part : BeginsRest source k [] len between after) (ahead behind : List ℕ) → ahead ≡ part.read ++ behind
        → StopsAt marks (BodyDue k len start) ahead (with_front marks k len part.front) (length part.read)
    in_body marks start part ahead behind split =
        let parts = ap length part.parts in (
          part.front,
          part.left ++ behind,
          split ∙ ap (λ (z : List ℕ). z ++ behind) part.parts ∙ append_assoc part.front part.left behind,
          refl,
          part.sound,
          omega (arith, parts, length-append {A = ℕ}),
          omega (arith, parts, part.few, length-append {A = ℕ}),
          omega (arith, ap length split, part.within, length-append {A = ℕ}),
        )

    short_title : {error : Error E} (new : Sides R W) (stops : StopsAtTitle source sink count old error new)
        (read : List ℕ) → length read ≤ 1 → new.decoder.offset ≡ stops.between.offset + length read
        → ((ahead : List ℕ) → view source stops.between ≡ Some ahead → Begins read ahead)
        → StopsShort source sink count due written old.decoder new
    short_title new stops read few offset begins =
        short stops.reaches stops.copied new read offset _ (came stops.copied).output
        (λ ahead is.
        let title = stops.at_title in
        let first = begins ahead is in
        grind (arith, ap length first.1, length-append {A = ℕ}))

    short_body : {error : Error E} (new : Sides R W) (stops : StopsInBody source sink count room old error new)
        → new.decoder.offset ≡ stops.stopped.ends.between.offset
        → StopsShort source sink count due written old.decoder new
    short_body new stops offset =
        let part = stops.stopped.ends.part in
        short stops.reaches stops.copied new part.read (offset ∙ part.passed.offset) _ (front_output new stops)
        (λ ahead is.
        let gone = consumes_told _ _ ahead part.read is part.passed.consumed in
        in_body stops.marks stops.start part ahead gone.0 gone.2)

    -- The offset can't take the next read.
    abbrev pub PassesAnyhow : Sides R W → Type 0
    PassesAnyhow new = StopsShort source sink count due written old.decoder new
        × (offset_limit ≤ new.decoder.offset + max 8 room)

    title_passes : (new : Sides R W) → StopsAtTitle source sink count old e.TooLong new → PassesAnyhow new
    title_passes new stops =
        let read = stops.fails.read in
        let full : 2 ^ 64 ≤ new.decoder.offset + next_read read = stops.fails.full in (
          short_title new stops read stops.fails.within_first stops.fails.offset (λ ahead is.
              let gone = consumes_told _ _ ahead read is stops.fails.bytes in
              (gone.0, gone.2)),
          omega (arith, full, next_read_small read, le-max_left 8 room),
        )

    opens_pass : (new : Sides R W) → StopsTooDeep source sink count old new → PassesAnyhow new
    opens_pass new stops =
        let title = stops.pulled.title in
        let lone = ap length (alone_bytes title (kind_header stops.kind None) stops.pulled.is_title
        (open_alone stops.kind)) in
        let full : 2 ^ 64 ≤ new.decoder.offset + 1 = stops.full in (
          short stops.reaches stops.copied new title stops.pulled.offset _
              (came stops.copied).output (λ ahead is.
              let gone = consumes_told _ _ ahead title is stops.pulled.bytes in
              (refl, omega (arith, lone, open_length stops.kind, ap length gone.2, length-append {A = ℕ}))),
          omega (arith, full, le-max_left 8 room),
        )

    body_passes : (new : Sides R W) → StopsInBody source sink count room old e.TooLong new → PassesAnyhow new
    body_passes new stops =
        let ends = stops.stopped.ends in
        let full : 2 ^ 64 ≤ ends.between.offset + ends.count = ends.stops.0 in
        let offset = ends.stops.1.offset in
        (short_body new stops offset, omega (arith, full, ends.filled, offset, le-max_right 8 room))

    abbrev pub unwritten : (new : Sides R W) → StopsWriting source sink count room old new
        → StopsUnwritten source sink count room due written old.decoder new
    unwritten new stops =
        let gone = consumes_told _ _ due (stops.bytes ++ stops.read) told.due-told stops.passed.consumed in
        let between = appends_told _ _ written stops.whole told.written-told stops.written.appended in
        let front = stops.fails.front in
        let part = take front.0 stops.next in
        record {
          stop = record {
            before = stops.bytes;
            read = stops.read;
            rest = gone.0;
            is = gone.2;
            whole = stops.whole;
            next = stops.next;
            next_write = stops.next_write;
            written = stops.whole ++ part;
            begun = (part, refl, (drop front.0 stops.next, sym (take-append-drop front.0 stops.next)));
          };
          output = appends_told _ _ (written ++ stops.whole) part between front.1.0
              ∙ ap Some (append_assoc written stops.whole part);
          left = gone.1;
          offset = omega (arith, stops.passed.offset, length-append {A = ℕ});
        }

    pub recode_anyhow : (new : Sides R W) (result : Result (Unit {0}) (RecodeError E F))
        → CopiesElements source sink count room old result new
        → RecodesAnyhow source sink allowed count room due written old.decoder result new
    recode_anyhow new (Ok unit) all = all_told new all.elements
    recode_anyhow new (Err (r.Read (e.Io fault))) (inl stops) =
        let fails = stops.fails in
        short_title new stops fails.read fails.within_first fails.offset (λ ahead is. rw is at fails.began)
    recode_anyhow new (Err (r.Read (e.Io fault))) (inr stops) = short_body new stops stops.stopped.ends.stops.1.offset
    recode_anyhow new (Err (r.Read (e.Syntax at))) (inl stops) = no_title_told at new stops
    recode_anyhow new (Err (r.Read (e.Syntax at))) (inr (inl stops)) = other_title_told at new stops
    recode_anyhow new (Err (r.Read (e.Syntax at))) (inr (inr stops)) = damaged_told at new stops
    recode_anyhow new (Err (r.Read e.TooLong)) (inl stops) = title_passes new stops
    recode_anyhow new (Err (r.Read e.TooLong)) (inr (inl stops)) = opens_pass new stops
    recode_anyhow new (Err (r.Read e.TooLong)) (inr (inr stops)) = body_passes new stops
    recode_anyhow new (Err (r.Read e.Waiting)) stops = absurd stops
    recode_anyhow new (Err (r.Write fault)) stops = unwritten new stops
