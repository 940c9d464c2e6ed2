-- A copy of elements if bytes are told and no side fails by itself: all elements are copied, or a fault stops the copy.
use Rattle.std.proofs.Common.{◌≡◌, ℕ, ◌+◌, ◌^◌, ◌<◌, ◌≤◌, List, ◌++◌, length, min, max, Result, Ok, Err, IsOk}
use Rattle.std.proofs.Common.{◌↔◌, refl, sym, ap, subst, ◌∙◌, inl, inr, arith, length-append}
use Rattle.std.proofs.lemmas.List.{length-take}
use Rattle.ciborium_ll_io.specs.declared.io.Read.{Ghosts as Reader}
use Rattle.ciborium_ll_io.specs.declared.io.Write.{Ghosts as Writer}
use Rattle.ciborium_ll_decoder.specs.declared.dec.Error.TheVariants as e
use Rattle.ciborium_ll_decoder.specs.declared.copy.RecodeError.{RecodeError}
use Rattle.ciborium_ll_decoder.specs.declared.copy.RecodeError.TheVariants as r
use Rattle.ciborium_ll_grammar.specs.declared.spelling.Spelling.{Spelling}
use Rattle.ciborium_ll_grammar.specs.Elements.{spelling}
use Rattle.ciborium_ll_grammar.specs.Faults.{Short, FirstFault, CutTitle, CutBody, BeginsWithElements}
use Rattle.ciborium_ll_decoder.specs.Decoding.{view, IsSteady}
use Rattle.ciborium_ll_decoder.specs.Premises.{longest_affix}
use Rattle.ciborium_ll_decoder.specs.BodyCopies.{Sides}
use Rattle.ciborium_ll_recode.specs.Recoding.{CopiesElements, StopsAtTitle, StopsInBody, StopsCopy, StopsWriting}
use Rattle.ciborium_ll_recode.specs.RecodingTold.{RecodesAnyhow, IsReady, IsTold, MeetsFault, RecodesTold}
use Rattle.ciborium_ll_grammar.proofs.StrictFaultLaws.{no_fault}
use Rattle.ciborium_ll_decoder.proofs.BodyLaws.{view_none}
use Rattle.ciborium_ll_decoder.proofs.ToldLaws.{consumes_told}
use Rattle.ciborium_ll_io.proofs.WriteLaws.{shrinks_told}
use Rattle.ciborium_ll_recode.proofs.RoomLaws.{next_shorter, next_spelled}
use Rattle.ciborium_ll_recode.proofs.RecodeAnyhowLaws.{came, met, title_spelled, front_output, in_body, PassesAnyhow}
use Rattle.ciborium_ll_recode.proofs.RecodeAnyhowLaws.{recode_anyhow}

module _ {R E W F : Type 0} {allowed : Spelling} (source : Reader R E) (sink : Writer W F) (count room : ℕ)
    (old : Sides R W) (due written : List ℕ) where
  -- A steady reader fails only if bytes are missing, whether or not the writer fails.
  module _ (steady : IsSteady source old.decoder) (told : IsTold source sink allowed old due written) where
    cut_title_told : (fault : E) (new : Sides R W) → StopsAtTitle source sink count old (e.Io fault) new
        → MeetsFault source sink allowed count due written Short old.decoder new
    cut_title_told fault new stops =
        let cut = stops.fails.steady (stops.copied.passed.steady steady) in
        let read = stops.fails.read in
        met _ _ _ room _ _ _ told stops.reaches stops.copied new read stops.fails.offset _
        (came _ _ count room _ _ _ told stops.copied).output (title_spelled _ _ _ room _ _ _ told stops) cut.0 Short
        (λ ahead behind a b split.
        let ends = rw a at cut.1 in
        let first : min 1 (length ahead) ≡ length read = omega (arith, ap length ends.1, length-take 1 ahead) in
        subst (λ (n : ℕ). FirstFault allowed stops.bytes stops.marks stops.point ahead Short (spelling stops.marks) n)
        first (CutTitle stops.at_title ends.0))

    cut_body_told : (fault : E) (new : Sides R W) → StopsInBody source sink count room old (e.Io fault) new
        → MeetsFault source sink allowed count due written Short old.decoder new
    cut_body_told fault new stops =
        let ends = stops.stopped.ends in
        let fails = ends.stops.1 in
        let part = ends.part in
        let still = fails.steady (part.passed.steady (stops.copied.passed.steady steady)) in
        let same : view source new.decoder ≡ source.ahead ends.between.reader =
        view_none new.decoder.waiting (source.ahead new.decoder.reader) fails.none_waits ∙ still.0 in
        let before = view_none ends.between.waiting (source.ahead ends.between.reader) fails.none_waited in
        met _ _ _ room _ _ _ told stops.reaches stops.copied new part.read (fails.offset ∙ part.passed.offset) _
        (front_output _ _ _ _ _ _ _ told new stops) stops.strict (rw (before ∙ sym same) at part.passed.consumed) Short
        (λ ahead behind a b split.
        let z = in_body _ _ count room _ _ _ told stops.marks stops.start part ahead behind split in
        let few = rw (sym same ∙ b) at still.1 in
        CutBody z.0 z.1 (omega (arith, few, ap length split, ends.filled, part.within, length-append {A = ℕ})) z.2 z.4
        z.5 z.6 (omega (arith, ap length split, length-append {A = ℕ})))

    pub short_told : (fault : E) (new : Sides R W) → StopsCopy source sink count room old (r.Read (e.Io fault)) new
        → MeetsFault source sink allowed count due written Short old.decoder new
    short_told fault new (inl stops) = cut_title_told fault new stops
    short_told fault new (inr stops) = cut_body_told fault new stops

  module _ (ready : IsReady source sink allowed count room old due written) where
    -- Both sides tell their bytes.
    told : IsTold source sink allowed old due written
    told = record {
      mode = ready.mode;
      due-told = ready.can_read.told;
      written-told = ready.can_write.told;
      none_waits = λ on. ready.can_read.none_waits (ready.mode ∙ on);
    }

    -- The offset fits all reads, so no read passes it.
    offset_fits : (new : Sides R W) → PassesAnyhow source sink count room old due written told new → ⊥
    offset_fits new passes =
        let stop = passes.0.stop in
        let at = stop.stops in
        let consumed : stop.consumed ≤ length stop.ahead = grind arith in
        let title : old.decoder.offset + length due + longest_affix < 2 ^ 64 = ready.can_read.fits-title in
        let chunk : old.decoder.offset + length due + room < 2 ^ 64 = ready.can_read.fits-chunk in
        let full : 2 ^ 64 ≤ new.decoder.offset + max longest_affix room = passes.1 in
        omega (arith, ap length stop.is, consumed, title, chunk, full, passes.0.offset, length-append {A = ℕ})

    writer_fits : (new : Sides R W) → StopsWriting source sink count room old new → ⊥
    writer_fits new stops =
        let can = ready.can_write in
        let gone = consumes_told _ _ due (stops.bytes ++ stops.read) ready.can_read.told stops.passed.consumed in
        let left = shrinks_told _ _ can.room (length stops.whole) can.room-told stops.written.room in
        let less : left.0 < length stops.next = rw left.1 at stops.fails.full in
        elim can.enough [
          | inl fits ↦ omega (arith, less, left.2, fits.1, next_spelled gone.0 stops.next_write fits.0 gone.2)
          | inr fits ↦ omega (arith, left.2, ap length gone.2, next_shorter stops.next_write, length-append {A = ℕ})
        ]

    anyhow : (new : Sides R W) (result : Result (Unit {0}) (RecodeError E F))
        → CopiesElements source sink count room old result new
        → RecodesAnyhow source sink allowed count room due written old.decoder result new
    anyhow new result all = recode_anyhow source sink count room old due written told new result all

    pub recode_told : (new : Sides R W) (result : Result (Unit {0}) (RecodeError E F))
        → CopiesElements source sink count room old result new
        → RecodesTold source sink allowed count due written old.decoder result new
    recode_told new (Ok unit) all = anyhow new (Ok unit) all
    recode_told new (Err (r.Read (e.Io fault))) stops = short_told ready.can_read.steady told fault new stops
    recode_told new (Err (r.Read (e.Syntax at))) stops = anyhow new (Err (r.Read (e.Syntax at))) stops
    recode_told new (Err (r.Read e.TooLong)) stops =
        absurd (offset_fits new (anyhow new (Err (r.Read e.TooLong)) stops))
    recode_told new (Err (r.Read e.Waiting)) stops = absurd stops
    recode_told new (Err (r.Write fault)) stops = absurd (writer_fits new stops)

    exactly_told : (new : Sides R W) (result : Result (Unit {0}) (RecodeError E F))
        → RecodesTold source sink allowed count due written old.decoder result new
        → IsOk result ↔ BeginsWithElements allowed count due
    exactly_told new (Ok unit) told = (λ ok. told.front, λ front. refl)
    exactly_told new (Err (r.Read (e.Io fault))) told =
        (λ ok. absurd cc, λ front. absurd (no_fault allowed count due front told.fault))
    exactly_told new (Err (r.Read (e.Syntax at))) told =
        (λ ok. absurd cc, λ front. absurd (no_fault allowed count due front told.2.fault))
    exactly_told new (Err (r.Read e.TooLong)) told = absurd told
    exactly_told new (Err (r.Read e.Waiting)) told = absurd told
    exactly_told new (Err (r.Write fault)) told = absurd told

    pub recode_exactly : (new : Sides R W) (result : Result (Unit {0}) (RecodeError E F))
        → CopiesElements source sink count room old result new
        → IsOk result ↔ BeginsWithElements allowed count due
    recode_exactly new result copied = exactly_told new result (recode_told new result copied)
