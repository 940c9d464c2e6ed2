-- The meaning of a skip if the bytes are told: the premises turn the general statement into an exact one.
use Rattle.std.proofs.Common.{◌≡◌, ℕ, ◌+◌, ◌≤◌, Bool, false, List, [], ◌++◌, length}
use Rattle.std.proofs.Common.{take, Option, Some, None, Result, Ok, Err, IsOk, ◌↔◌, refl, sym, ap, subst, ◌∙◌}
use Rattle.std.proofs.Common.{inl, inr, arith, append_assoc, length-append}
use Rattle.std.proofs.lemmas.List.{length-take}
use Rattle.std.proofs.Math.Seq.{drop-append_seam}
use Rattle.std.proofs.lemmas.Bool.{cases_lt}
use Rattle.std.specs.Io.KnownBytes.{Consumes}
use Rattle.ciborium_ll_io.specs.declared.io.Read.{Ghosts}
use Rattle.ciborium_ll_grammar.specs.declared.spelling.Spelling.{Spelling}
use Rattle.ciborium_ll_grammar.specs.declared.spelling.Spelling.TheVariants.{Shortest}
use Rattle.ciborium_ll_grammar.specs.declared.hdr.Header.TheVariants as h
use Rattle.ciborium_ll_decoder.specs.declared.dec.Decoder.{Decoder}
use Rattle.ciborium_ll_decoder.specs.declared.dec.Error.{Error}
use Rattle.ciborium_ll_decoder.specs.declared.dec.Error.TheVariants as e
use Rattle.ciborium_ll_grammar.specs.Title.{shortest_title}
use Rattle.ciborium_ll_grammar.specs.Strings.{Kind, Text, kind_header}
use Rattle.ciborium_ll_grammar.specs.Faults.{Point, In, Answer, BodyDue, IsAtTitle, IsRefusedIn, FirstFault, CutTitle}
use Rattle.ciborium_ll_grammar.specs.Faults.{NoTitle, LongTitle, OtherTitle, DamagedText, CutBody, CutDamagedText}
use Rattle.ciborium_ll_grammar.specs.Faults.{Short, Syntax, with_front}
use Rattle.ciborium_ll_decoder.specs.Decoding.{view, ReadsPast, DecoderPullAnswer, PullsTitle, IsSteady, spelling_of}
use Rattle.ciborium_ll_decoder.specs.Finishing.{IsNoText, StopsRest}
use Rattle.ciborium_ll_decoder.specs.Skipping.{SkipsString, SkipsInside, MeetsNoTitle, MeetsOther, MeetsBody}
use Rattle.ciborium_ll_grammar.proofs.TitleLaws.{shortest_no_longer}
use Rattle.ciborium_ll_text.proofs.TextLaws.{IsCharacters-nil}
use Rattle.ciborium_ll_decoder.proofs.DamageLaws.{damage_read}
use Rattle.ciborium_ll_decoder.proofs.ToldLaws.{consumes_told, next_read_small}
use Rattle.ciborium_ll_text.proofs.Lists.{front_of, front_behind}
use Rattle.ciborium_ll_text.proofs.FrontLaws.{no_text_behind}
use Rattle.ciborium_ll_decoder.proofs.NestLaws.{alone_bytes, open_alone}
use Rattle.ciborium_ll_decoder.proofs.DecodingLaws.{ReadsPast-then, ReadsPast-pull, ReadsPast-pulled}
use Rattle.cbor_skip.specs.declared.SkipError.{SkipError}
use Rattle.cbor_skip.specs.declared.SkipError.TheVariants as s
use Rattle.cbor_skip.specs.Due.{ItemDue, ReachesItem, at_item, at_string, at_body, at_piece}
use Rattle.cbor_skip.specs.ItemFaults.{BeginsWithItem}
use Rattle.cbor_skip.specs.Skipping.{SkipsItem, ReadsItem, allowed_by}
use Rattle.ciborium_ll_decoder.specs.Premises.{CanRead}
use Rattle.cbor_skip.specs.SkippingTold.{SkipsFront, MeetsItemFault, SkipsTold}
use Rattle.cbor_skip.proofs.DueLaws.{no_item_fault, no_early_break, no_deep_nest}
use Rattle.cbor_skip.proofs.StrictnessLaws.{behind_taken, inside_when, strict_by, strict_mode, strict_settled}

-- A body that is no text is a row of `FirstFault`, also if only a beginning of the body was read.
damage : {allowed : Spelling} {before read : List ℕ} {len start : ℕ} (behind : List ℕ) → length read ≤ len
    → IsNoText [] len read → FirstFault allowed before [] (BodyDue Text len start) (read ++ behind) (Syntax start)
    (with_front [] Text len []) (length read)
damage {read = read} {len = len} behind within (inl whole) =
    DamagedText [] _ (omega (arith, length-append read behind))
    (λ text. whole.1 (rw (front_of len _ read behind refl whole.0) at text)) refl IsCharacters-nil (omega arith) within
damage {read = read} {len = len} behind within (inr begins) =
    let rest = read ++ behind in
    elim (cases_lt (length rest) len) [
      | inl cut ↦ CutDamagedText [] rest cut (no_text_behind read behind begins) refl IsCharacters-nil (omega arith)
          (omega (arith, length-append read behind))
      | inr all ↦ DamagedText [] (take len rest) all
          (λ text. begins _ (rw (front_behind len rest read behind refl within) at text)) refl IsCharacters-nil
          (omega arith) within
    ]

module _ {R E : Type 0} (source : Ghosts R E) (depth room : ℕ) (old : Decoder R) (due : List ℕ) where
  -- If an item was read, the bytes due began with this item.
  front_told : view source old ≡ Some due → (new : Decoder R) → ReadsItem source depth old new
      → SkipsFront source (allowed_by old) depth due old new
  front_told told new reads =
      let gone = consumes_told _ _ due reads.item told reads.passed.consumed in
      record { front = search; left = gone.1; offset = reads.passed.offset }

  -- `Ok` says that the bytes due began with an item, over any reader that tells its bytes.
  pub ok_told : view source old ≡ Some due → (new : Decoder R) (result : Result (Unit {0}) (SkipError E))
      → SkipsItem source depth room old result new → IsOk result → SkipsFront source (allowed_by old) depth due old new
  ok_told told new (Ok done) reads ok = front_told told new reads
  ok_told told new (Err error) stops ok = absurd cc

  module _ (ready : CanRead source room old due) where
    -- The statement of `SkipsTold` for an error of the decoder.
    abbrev Told : Error E → Decoder R → Type 0
    Told error new = SkipsTold source (allowed_by old) depth due old (Err (s.Read error)) new

    -- The decoder has read `bytes`.
    module _ {bytes : List ℕ} {at : Decoder R} (passed : ReadsPast source old bytes at) where
      -- The bytes that it reads next were due.
      gone : {known : Option (List ℕ)} (read : List ℕ) → Consumes (view source at) known read → (rest : List ℕ)
          × (view source at ≡ Some (read ++ rest)) × (known ≡ Some rest) × (due ≡ bytes ++ (read ++ rest))
      gone read consumes =
          let came = consumes_told _ _ due bytes ready.told passed.consumed in
          let behind = consumes_told _ _ came.0 read came.1 consumes in
          (behind.0, came.1 ∙ ap Some behind.2, behind.1, came.2 ∙ ap (◌++◌ bytes) behind.2)

      -- If the decoder is strict there, the skip takes only the shortest spelling.
      strictly : spelling_of at ≡ Shortest → allowed_by old ≡ Shortest
      strictly on =
          let mode = sym passed.mode ∙ on in
          strict_settled old.waiting (spelling_of old) (ready.none_waits mode) ∙ mode

      -- A fault at the point, which consumes `read`, is the fault that stops the skip.
      met : {point : Point} {answer : Answer} {written : List ℕ} {new : Decoder R} (read : List ℕ)
          → ReachesItem (allowed_by old) depth bytes point → Consumes (view source at) (view source new) read
          → new.offset ≡ at.offset + length read
          → ((rest : List ℕ) → view source at ≡ Some (read ++ rest) → view source new ≡ Some rest
          → FirstFault (allowed_by old) bytes [] point (read ++ rest) answer written (length read))
          → MeetsItemFault source (allowed_by old) depth due answer old new
      met {answer = answer} {written = written} read reach consumes offset fault =
          let g = gone read consumes in
          let found = fault g.0 g.1 g.2 in
          record {
            fault = search;
            answered = refl;
            left = g.2 ∙ ap Some (sym (drop-append_seam read g.0));
            offset = omega (arith, offset, passed.offset);
          }

      -- A failed read of a title tells the fault.
      title_told : {point : Point} (error : Error E) (new : Decoder R) → ReachesItem (allowed_by old) depth bytes point
          → IsAtTitle point → DecoderPullAnswer source at (Err error) new → Told error new
      title_told {point = point} (e.Io fault) new reach title fails =
          let cut = fails.steady (passed.steady ready.steady) in
          met fails.read reach cut.0 fails.offset (λ rest here left.
          let ends = rw here at cut.1 in
          subst (FirstFault (allowed_by old) bytes [] point (fails.read ++ rest) Short [])
          (sym (ap length ends.1 ∙ length-take 1 (fails.read ++ rest))) (CutTitle title ends.0))
      title_told (e.Syntax n) new reach title (inl fails) = (
        length bytes,
        fails.place ∙ passed.offset,
        met _ reach fails.bytes fails.offset (λ rest here left. NoTitle title fails.refused),
      )
      title_told (e.Syntax n) new reach title (inr fails) = (
        length bytes,
        fails.place ∙ passed.offset,
        met _ reach fails.bytes fails.offset (λ rest here left.
            LongTitle fails.header rest title fails.is_title
            (λ taken. fails.not_strict (rw (strictly fails.strict) at taken)) refl),
      )
      title_told e.TooLong new reach title fails =
          let whole = simp length-append at (ap length (gone fails.read fails.bytes).3) in
          absurd (omega (arith, next_read_small fails.read))
      title_told e.Waiting new reach title fails = absurd fails

      -- A failed read of a body tells the fault.
      body_told : {k : Kind} {len start place : ℕ} (error : Error E) (new : Decoder R)
          → ReachesItem (allowed_by old) depth bytes (BodyDue k len start) → place ≡ old.offset + start
          → StopsRest source k [] len room place at error new → Told error new
      body_told {k = k} (e.Io fault) new reach there fails =
          let part = fails.part in
          let stop = fails.stops.1 in
          let still = stop.steady (part.passed.steady (passed.steady ready.steady)) in
          let same : view source fails.between ≡ view source new =
          rw (stop.none_waited, stop.none_waits) (sym still.0) in
          met part.read reach (rw same at part.passed.consumed) (stop.offset ∙ part.passed.offset)
          (λ rest here left.
          let after : source.ahead fails.between.reader ≡ Some rest = rw stop.none_waited at (same ∙ left) in
          let few = rw after at still.1 in
          let counted = length-append part.read rest in
          let parts = simp length-append at (ap length part.parts) in
          CutBody part.front (part.left ++ rest) (omega arith) (rw (part.parts, append_assoc)) part.sound
          (omega arith) (omega arith) (omega arith))
      body_told {k = k} {len = len} {start = start} {place = place} (e.Syntax n) new reach there fails =
          let all = damage_read source k [] len room place n at new fails in (
            start,
            fails.stops.0 ∙ there,
            met all.read (rw all.textual at reach) all.passed.consumed all.passed.offset
                (λ rest here left. damage rest all.within all.no_text),
          )
      body_told e.TooLong new reach there fails =
          let part = fails.part in
          let whole = simp length-append at (ap length (gone part.read part.passed.consumed).3) in
          absurd (omega arith)
      body_told e.Waiting new reach there fails = absurd fails.stops

    -- The bytes read are a beginning of an item.
    module _ {bytes : List ℕ} {levels : ℕ} {closable : Bool} {at : Decoder R}
        (item : ItemDue (allowed_by old) false depth bytes levels closable) (passed : ReadsPast source old bytes at)
      where
        -- A string of indefinite length began.
        module _ (k : Kind) {titled : Decoder R} (pulled : PullsTitle source at (kind_header k None) titled)
            (steady : IsSteady source at → IsSteady source titled) where
          -- After a beginning of the string, the point is within the string.
          inside : {between : Decoder R} → SkipsInside source k titled between
              → (all : List ℕ) × ReachesItem (allowed_by old) depth all (In k) × ReadsPast source old all between
          inside {between = between} part =
              let front = shortest_title (kind_header k None) in
              let lone = alone_bytes pulled.title (kind_header k None) pulled.is_title (open_alone k) in
              let opened = ReadsPast-pull source old at titled bytes (kind_header k None) pulled passed steady in
              let behind = ReadsPast-then source old titled between _ part.behind opened part.passed in
              let taken = inside_when (allowed_by old) k (front ++ part.behind) part.bodies (λ on.
              let mode : spelling_of titled ≡ Shortest =
              pulled.mode ∙ (passed.mode ∙ (strict_by old.waiting (spelling_of old) on).0) in
              (part.behind, refl, rw mode at part.taken)) in (
                bytes ++ (front ++ part.behind),
                at_string item part.inside taken part.sound,
                simp (append_assoc, lone) at behind,
              )

          -- If no further title comes, the error tells the fault.
          meets_title : {error : Error E} {new : Decoder R} → MeetsNoTitle source k titled error new → Told error new
          meets_title {error = error} {new = new} meets =
              let w = inside meets.part in
              title_told w.2 error new w.1 tt meets.fails

          -- If the body after a further title fails, the error tells the fault.
          meets_body : {error : Error E} {new : Decoder R} → MeetsBody source k room titled error new → Told error new
          meets_body {error = error} {new = new} meets =
              let w = inside meets.part in
              let title = meets.pulled in
              let still = λ (first : IsSteady source old). meets.steady (steady (passed.steady first)) in
              let behind = ReadsPast-pulled source old meets.between meets.titled w.0 _ title w.2 still in
              let reach = at_piece w.1 title.is_title (behind_taken source w.2 title) in
              body_told behind error new reach w.2.offset meets.ends

          -- If a title comes that may not stand in the string, the error tells the fault.
          meets_other : {n : ℕ} {new : Decoder R} → MeetsOther source k titled n new → Told (e.Syntax n) new
          meets_other meets =
              let w = inside meets.part in
              let other = meets.other in
              let refused = elim other.refused as (λ x. IsRefusedIn (allowed_by old) k other.header)
              [ inl misplaced ↦ inl misplaced | inr nested ↦ inr (strictly w.2 nested.0, nested.1) ] in (
                length w.0,
                other.place ∙ w.2.offset,
                met w.2 other.pulled.title w.1 other.pulled.bytes other.pulled.offset
                    (λ rest here left. OtherTitle other.header rest other.pulled.is_title refused refl),
              )

          -- A failed read of a string of indefinite length tells the fault.
          open_told : (error : Error E) (new : Decoder R) → SkipsString source k None room titled (Err error) new
              → Told error new
          open_told (e.Io fault) new (inl meets) = meets_title meets
          open_told (e.Io fault) new (inr meets) = meets_body meets
          open_told (e.Syntax n) new (inl meets) = meets_title meets
          open_told (e.Syntax n) new (inr (inl meets)) = meets_other meets
          open_told (e.Syntax n) new (inr (inr meets)) = meets_body meets
          open_told e.TooLong new (inl meets) = meets_title meets
          open_told e.TooLong new (inr meets) = meets_body meets
          open_told e.Waiting new meets = absurd meets

        -- A failed read of any string tells the fault.
        string_told : (k : Kind) (len : Option ℕ) {titled : Decoder R} (error : Error E) (new : Decoder R)
            → PullsTitle source at (kind_header k len) titled → (IsSteady source at → IsSteady source titled)
            → SkipsString source k len room titled (Err error) new → Told error new
        string_told k None error new pulled steady fails = open_told k pulled steady error new fails
        string_told k (Some n) {titled = titled} error new pulled steady ends =
            let header = kind_header k (Some n) in
            let behind = ReadsPast-pull source old at titled bytes header pulled passed steady in
            let reach = at_body k (at_item item) pulled.is_title (behind_taken source passed pulled) in
            let short = shortest_no_longer pulled.title header pulled.is_title in
            body_told behind error new reach (omega (arith, length-append bytes pulled.title)) ends

    -- ---- all answers

    told_by : (new : Decoder R) (result : Result (Unit {0}) (SkipError E)) → SkipsItem source depth room old result new
        → SkipsTold source (allowed_by old) depth due old result new
    told_by new (Ok done) reads = front_told ready.told new reads
    told_by new (Err (s.Break at)) stops =
        let meets = stops.stops in
        let pulled = meets.pulled in
        let g = gone stops.passed pulled.title pulled.bytes in
        let lone = alone_bytes pulled.title h.Break pulled.is_title refl in
        let due = rw meets.not_closable at stops.due in
        let is = g.3 ∙ ap (λ (z : List ℕ). stops.bytes ++ (z ++ g.0)) lone in
        record {
          fault = search;
          place = meets.place ∙ stops.passed.offset;
          left = g.2;
          offset = omega (arith, pulled.offset, meets.place, ap length lone);
        }
    told_by new (Err (s.Deep at)) stops =
        let meets = stops.stops in
        let pulled = meets.pulled in
        let g = gone stops.passed pulled.title pulled.bytes in
        let due = rw meets.none_left at stops.due in
        let taken = behind_taken source stops.passed pulled in
        record {
          fault = search;
          place = meets.place ∙ stops.passed.offset;
          left = g.2;
          offset = omega (arith, pulled.offset, meets.place);
        }
    told_by new (Err (s.Read error)) stops =
        elim stops.stops [
          | inl fails ↦ title_told stops.passed error new (at_item stops.due) tt fails
          | inr meets ↦
              string_told stops.due stops.passed meets.kind meets.len error new meets.pulled meets.steady meets.fails
        ]

    -- If the decoder is ready, its strictness is its mode.
    pub ready_mode : allowed_by old ≡ spelling_of old
    ready_mode = strict_mode old.waiting (spelling_of old) ready.none_waits

    pub skip_told : (new : Decoder R) (result : Result (Unit {0}) (SkipError E))
        → SkipsItem source depth room old result new → SkipsTold source (spelling_of old) depth due old result new
    skip_told new result skips =
        subst (λ (b : Spelling). SkipsTold source b depth due old result new) ready_mode (told_by new result skips)

    exactly_told : (new : Decoder R) (result : Result (Unit {0}) (SkipError E))
        → SkipsTold source (spelling_of old) depth due old result new
        → IsOk result ↔ BeginsWithItem (spelling_of old) depth due
    exactly_told new (Ok done) told = (λ ok. told.front, λ front. refl)
    exactly_told new (Err (s.Break at)) told =
        (λ ok. absurd cc, λ front. absurd (no_early_break (spelling_of old) depth due front told.fault))
    exactly_told new (Err (s.Deep at)) told =
        (λ ok. absurd cc, λ front. absurd (no_deep_nest (spelling_of old) depth due front told.fault))
    exactly_told new (Err (s.Read (e.Io fault))) told =
        (λ ok. absurd cc, λ front. absurd (no_item_fault (spelling_of old) depth due front told.fault))
    exactly_told new (Err (s.Read (e.Syntax at))) told =
        (λ ok. absurd cc, λ front. absurd (no_item_fault (spelling_of old) depth due front told.2.fault))
    exactly_told new (Err (s.Read e.TooLong)) told = absurd told
    exactly_told new (Err (s.Read e.Waiting)) told = absurd told

    pub skip_exactly : (new : Decoder R) (result : Result (Unit {0}) (SkipError E))
        → SkipsItem source depth room old result new → IsOk result ↔ BeginsWithItem (spelling_of old) depth due
    skip_exactly new result skips = exactly_told new result (skip_told new result skips)
