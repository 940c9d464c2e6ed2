-- A string that is read to its end.
use Rattle.std.proofs.Common.{[], ◌≡◌, ℕ, zero, suc, ◌-◌, ◌^◌, ◌<◌, ◌⊎◌, List, ◌∷◌, ◌++◌, Option, Some, None}
use Rattle.std.proofs.Common.{Result, Ok, Err, refl, inl, inr, arith, append_assoc, length-append}
use Rattle.ciborium_ll_io.specs.declared.io.Read.{Ghosts as Reader}
use Rattle.ciborium_ll_grammar.specs.declared.spelling.Spelling.{Spelling}
use Rattle.ciborium_ll_grammar.specs.declared.hdr.Header.TheVariants as h
use Rattle.ciborium_ll_decoder.specs.declared.dec.Decoder.{Decoder}
use Rattle.ciborium_ll_decoder.specs.declared.dec.Error.{Error}
use Rattle.ciborium_ll_decoder.specs.declared.dec.Error.TheVariants as e
use Rattle.ciborium_ll_decoder.specs.declared.seg.Body.{Body}
use Rattle.ciborium_ll_decoder.specs.declared.seg.Progress.{Progress}
use Rattle.ciborium_ll_decoder.specs.declared.seg.Progress.TheVariants as p
use Rattle.ciborium_ll_grammar.specs.Title.{IsInRange, shortest_title, title_len}
use Rattle.ciborium_ll_grammar.specs.Strings.{Kind, kind_header, IsString, definite, indefinite}
use Rattle.ciborium_ll_grammar.proofs.OpenStrings.{IsInsideAt, one_open, more_open}
use Rattle.ciborium_ll_decoder.specs.Decoding.{DecoderPullAnswer, ReadsPast, IsSteady, TakesBack, spelling_of}
use Rattle.ciborium_ll_decoder.specs.Segments.{FindsOther, AdvancesTo, NestsTooDeep}
use Rattle.ciborium_ll_decoder.specs.Finishing.{ReadsRest, BeginsRest, EndsBody}
use Rattle.ciborium_ll_decoder.specs.Skipping.{SkipsWhole, SkipsInside, MeetsNoTitle, MeetsOther, MeetsBody}
use Rattle.ciborium_ll_decoder.specs.Skipping.{StopsInside, SkipsString}
use Rattle.ciborium_ll_grammar.specs.Elements.{spelling, pieces}
use Rattle.ciborium_ll_grammar.specs.Items.{AreTakenStrings}
use Rattle.ciborium_ll_grammar.specs.StrictElements.{AreFlat}
use Rattle.ciborium_ll_grammar.proofs.ElementLaws.{respell_all}
use Rattle.ciborium_ll_grammar.proofs.TitleLaws.{IsTitle-shortest}
use Rattle.ciborium_ll_grammar.proofs.StepLaws.{counted, never}
use Rattle.ciborium_ll_decoder.proofs.FlatStrings.{flat}
use Rattle.ciborium_ll_decoder.proofs.BodyLaws.{sound_body}
use Rattle.ciborium_ll_decoder.proofs.DecodingLaws.{ReadsPast-none, ReadsPast-pulled, passes_same}
use Rattle.ciborium_ll_decoder.proofs.NestLaws.{alone_bytes, open_length, title_some, advance_definite, FindsOnly}
use Rattle.ciborium_ll_decoder.proofs.SegmentLaws.{StringSoFar, AdvancesAmong, IsAmong, advances_among, segment_added}
use Rattle.ciborium_ll_decoder.proofs.SegmentLaws.{opens_counted, other_inside, some_open}

-- With the break of the last open, the bytes inside a string are a whole string.
pub close_string : (k : Kind) (u : List ℕ) (bs : List (List ℕ)) → IsInsideAt k (suc zero) u bs
    → IsString k (u ++ 0xff ∷ []) bs
close_string k u bs (one_open {title = t} {strings = x} p s) = rw (append_assoc t x (0xff ∷ [])) (indefinite p s)
close_string k u bs (more_open {outer = y} {bodies = ds} i p s) = absurd (never k y ds i)

-- Inside one open, the spelling of the bodies' pieces has no open.
flat_inside : (k : Kind) (u : List ℕ) (bs : List (List ℕ)) → IsInsideAt k (suc zero) u bs
    → AreFlat k (spelling (pieces k bs)) bs
flat_inside k u bs h3 = grind (arith, flat, respell_all, never)

-- ---- the end of a body

module _ {R E : Type 0} (source : Reader R E) (k : Kind) (len : ℕ) (old new : Decoder R)
    (passed : ReadsPast source old [] new) where
  begins_behind : (now : Decoder R) → BeginsRest source k [] len new now → BeginsRest source k [] len old now
  begins_behind now part = grind arith

  ends_behind : (room place : ℕ) (error : Error E) (ended : Decoder R)
      → EndsBody source k [] len room place new (Err error) ended
      → EndsBody source k [] len room place old (Err error) ended
  unfolding begins_behind
  ends_behind room place error ended stops = record {
    between = stops.between;
    part = begins_behind stops.between stops.part;
    count = stops.count;
    filled = stops.filled;
    stops = stops.stops;
  }

-- ---- the loop over segments

module _ {R E : Type 0} (source : Reader R E) (k : Kind) where
  -- The string has a definite length. Its body is due, or was read.
  pub record AloneSoFar (len : ℕ) (opened : Decoder R) (progress : Progress) (now : Decoder R) : Type 0 where
    pub none_waits : opened.waiting ≡ None
    pub in_range : IsInRange (kind_header k (Some len))
    pub far : ((progress ≡ p.Open 0) × TakesBack source opened (kind_header k (Some len)) now) ⊎
        ((progress ≡ p.Ended) × ReadsRest source k [] len opened now)

  -- The invariant of the loop.
  abbrev pub SkipsSoFar : Option ℕ → Decoder R → Progress → Decoder R → Type 0
  SkipsSoFar None opened progress now =
      ((bodies : List (List ℕ)) × StringSoFar source k bodies opened progress now) × (0 < opened.offset)
  SkipsSoFar (Some len) opened progress now = AloneSoFar len opened progress now

  -- ---- a string of a definite length

  -- A body that was read whole makes a whole string.
  whole_body : (len : ℕ) (opened new : Decoder R) → IsInRange (kind_header k (Some len))
      → ReadsRest source k [] len opened new → SkipsWhole source k (Some len) opened new
  whole_body len opened new range reads =
      let title = shortest_title (kind_header k (Some len)) in
      let is_string : IsString k (title ++ reads.read) (reads.read ∷ []) =
      definite {title = title} (rw reads.all (IsTitle-shortest (kind_header k (Some len)) range)) in
      let sound = sound_body k reads.read reads.sound in
      search

  pub definite_skipped : (len room : ℕ) (opened new : Decoder R) (result : Result (Unit {0}) (Error E))
      → IsInRange (kind_header k (Some len))
      → EndsBody source k [] len room (opened.offset - title_len (kind_header k (Some len))) opened result new
      → SkipsString source k (Some len) room opened result new
  definite_skipped len room opened new result range reads = grind (arith, whole_body)

  module _ (allowed : Spelling) (len : ℕ) (opened now new : Decoder R) (progress progress' : Progress)
      (so_far : AloneSoFar len opened progress now) where
    -- `advance` gives the body first, and then `None`.
    lone_found : (result : Result (Option Body) (Error E))
        → AdvancesTo source k allowed progress now result progress' new
        → FindsOnly source k len opened result progress' new ⊎
        ((result ≡ Ok None) × ReadsRest source k [] len opened new)
    lone_found result advances = grind (arith, advance_definite)

    lone_end : AdvancesTo source k allowed progress now (Ok None) progress' new
        → SkipsWhole source k (Some len) opened new
    lone_end advances = grind (arith, lone_found, whole_body)

    lone_error : (error : Error E) → AdvancesTo source k allowed progress now (Err error) progress' new → ⊥
    lone_error error advances = grind (arith, lone_found)

    -- The body that `advance` gave, and the decoder before its bytes.
    record LoneBody (body : Body) : Type 0 where
      pub lengths : body.length ≡ len
      pub place : body.place ≡ opened.offset - title_len (kind_header k (Some len))
      pub passed : ReadsPast source opened [] new
      pub ended : progress' ≡ p.Ended

    lone_is : (body : Body) → FindsOnly source k len opened (Ok (Some body)) progress' new → opened.waiting ≡ None
        → LoneBody body
    lone_is body only none = grind (arith, passes_same source opened opened new [] (ReadsPast-none source opened))

    lone_body : (body : Body) → AdvancesTo source k allowed progress now (Ok (Some body)) progress' new → LoneBody body
    lone_body body advances = elim (lone_found (Ok (Some body)) advances) [
      | inl only ↦ lone_is body only so_far.none_waits
      | inr ended ↦ absurd (let f = ended.0 in cc)
    ]

    lone_reads : (body : Body) (ended : Decoder R) → LoneBody body → ReadsRest source k [] body.length new ended
        → AloneSoFar len opened progress' ended
    lone_reads body ended lone reads = grind arith

  -- ---- segments after an open

  -- The strings so far are strings that the decoder takes.
  taken_among : {opens : ℕ} {bodies : List (List ℕ)} {opened now : Decoder R}
      (a : IsAmong source k opens bodies opened now) → AreTakenStrings (spelling_of opened) k a.strings bodies
  taken_among a = grind (arith, flat_inside)

  part_of : {opens : ℕ} {bodies : List (List ℕ)} {opened now : Decoder R} → IsAmong source k opens bodies opened now
      → SkipsInside source k opened now
  part_of a = search (counted, taken_among)

  module _ (bodies : List (List ℕ)) (opened now new : Decoder R) (progress : Progress) where
    open_end : AdvancesAmong source k bodies opened now (Ok None) progress new → SkipsWhole source k None opened new
    open_end all =
        let strings = all.among.strings in
        let front = shortest_title (kind_header k None) in
        let break = alone_bytes all.ends.pulled.title h.Break all.ends.pulled.is_title refl in
        let is_string = rw append_assoc at (close_string k (front ++ strings) bodies
        (rw all.ends.last at all.among.within)) in
        let passed = rw break at (ReadsPast-pulled source opened all.between new strings h.Break all.ends.pulled
        all.among.passed all.steady) in
        let taken = taken_among all.among in
        search

    -- As many opens as a `usize` counts take more bytes than an offset counts.
    not_too_deep : {left : ℕ} {between : Decoder R} → IsAmong source k left bodies opened between → 0 < opened.offset
        → NestsTooDeep source k left between progress new → new.offset < 2 ^ 64 → ⊥
    not_too_deep a settled deep less = grind (arith, opens_counted, open_length, length-append {A = ℕ}, title_some)

    no_title : {left : ℕ} {between : Decoder R} (error : Error E) → IsAmong source k left bodies opened between
        → DecoderPullAnswer source between (Err error) new → MeetsNoTitle source k opened error new
    no_title {between} error a fails = record { between = between; part = part_of a; fails = fails }

    meets_other : {left : ℕ} {between : Decoder R} (at : ℕ) → IsAmong source k left bodies opened between
        → FindsOther source k (spelling_of opened) left between at progress new → MeetsOther source k opened at new
    meets_other at a other = search (part_of, other_inside, some_open, arith)

    open_error : (room : ℕ) (error : Error E) → 0 < opened.offset → new.offset < 2 ^ 64
        → AdvancesAmong source k bodies opened now (Err error) progress new → StopsInside source k room opened error new
    open_error room (e.Io fault) settled less all = inl (no_title (e.Io fault) all.among all.ends.0)
    open_error room (e.Syntax at) settled less all = elim all.ends [
      | inl refused ↦ inl (no_title (e.Syntax at) all.among refused.0)
      | inr other ↦ inr (inl (meets_other at all.among other))
    ]
    open_error room e.TooLong settled less all = elim all.ends [
      | inl passes ↦ inl (no_title e.TooLong all.among passes.0)
      | inr deep ↦ absurd (not_too_deep all.among settled deep less)
    ]
    open_error room e.Waiting settled less all = absurd all.ends

    meets_body : (room : ℕ) (body : Body) (ended : Decoder R) (error : Error E)
        → AdvancesAmong source k bodies opened now (Ok (Some body)) progress new
        → EndsBody source k [] body.length room body.place new (Err error) ended
        → MeetsBody source k room opened error ended
    meets_body room body ended error all ends = let placed = rw all.ends.place at ends in search part_of

  body_stops : (room : ℕ) (opened : Decoder R) (error : Error E) (ended : Decoder R)
      → MeetsBody source k room opened error ended → StopsInside source k room opened error ended
  body_stops room opened error ended meets = grind arith

  -- ---- both forms of a string

  pub skips_end : (allowed : Spelling) (len : Option ℕ) (room : ℕ) (opened now new : Decoder R)
      (progress progress' : Progress) → allowed ≡ spelling_of opened → SkipsSoFar len opened progress now
      → (IsSteady source now → IsSteady source new) → AdvancesTo source k allowed progress now (Ok None) progress' new
      → SkipsString source k len room opened (Ok (tt {0})) new
  skips_end allowed None room opened now new progress progress' mode so_far steady advances =
      open_end so_far.0.0 opened now new progress' (advances_among source k so_far.0.0 opened now allowed (Ok None)
      progress progress' new mode so_far.0.1 advances steady)
  skips_end allowed (Some len) room opened now new progress progress' mode so_far steady advances =
      lone_end allowed len opened now new progress progress' so_far advances

  pub skips_error : (allowed : Spelling) (len : Option ℕ) (room : ℕ) (opened now new : Decoder R)
      (progress progress' : Progress) (error : Error E) → new.offset < 2 ^ 64 → allowed ≡ spelling_of opened
      → SkipsSoFar len opened progress now
      → (IsSteady source now → IsSteady source new) → AdvancesTo source k allowed progress now (Err error) progress' new
      → SkipsString source k len room opened (Err error) new
  skips_error allowed None room opened now new progress progress' error less mode so_far steady advances =
      open_error so_far.0.0 opened now new progress' room error so_far.1 less (advances_among source k so_far.0.0 opened
      now allowed (Err error) progress progress' new mode so_far.0.1 advances steady)
  skips_error allowed (Some len) room opened now new progress progress' error less mode so_far steady advances =
      absurd (lone_error allowed len opened now new progress progress' so_far error advances)

  pub skips_body : (allowed : Spelling) (len : Option ℕ) (room : ℕ) (opened now new ended : Decoder R)
      (progress progress' : Progress) (body : Body) → allowed ≡ spelling_of opened → SkipsSoFar len opened progress now
      → (IsSteady source now → IsSteady source new) → (IsSteady source new → IsSteady source ended)
      → AdvancesTo source k allowed progress now (Ok (Some body)) progress' new
      → EndsBody source k [] body.length room body.place new (Ok (tt {0})) ended → SkipsSoFar len opened progress' ended
  skips_body allowed None room opened now new ended progress progress' body mode so_far steady steady' advances reads =
      let all = advances_among source k so_far.0.0 opened now allowed (Ok (Some body)) progress progress' new mode
      so_far.0.1 advances steady in
      let more = segment_added source k so_far.0.0 opened now new ended body progress' so_far.0.1.none_waits all reads
      steady' in
      ((_, more), so_far.1)
  skips_body allowed (Some len) room opened now new ended progress progress' body mode so_far steady steady' advances
      reads = lone_reads allowed len opened now new progress progress' so_far body ended
      (lone_body allowed len opened now new progress progress' so_far body advances) reads

  pub skips_stop : (allowed : Spelling) (len : Option ℕ) (room : ℕ) (opened now new ended : Decoder R)
      (progress progress' : Progress) (body : Body) (error : Error E) → allowed ≡ spelling_of opened
      → SkipsSoFar len opened progress now → (IsSteady source now → IsSteady source new)
      → AdvancesTo source k allowed progress now (Ok (Some body)) progress' new
      → EndsBody source k [] body.length room body.place new (Err error) ended
      → SkipsString source k len room opened (Err error) ended
  skips_stop allowed None room opened now new ended progress progress' body error mode so_far steady advances ends =
      let all = advances_among source k so_far.0.0 opened now allowed (Ok (Some body)) progress progress' new mode
      so_far.0.1 advances steady in
      body_stops room opened error ended (meets_body so_far.0.0 opened now new progress' room body ended error all ends)
  skips_stop allowed (Some len) room opened now new ended progress progress' body error mode so_far steady advances
      ends =
      let lone = lone_body allowed len opened now new progress progress' so_far body advances in
      ends_behind source k len opened new lone.passed room _ error ended (rw (lone.lengths, lone.place) at ends)

  -- The title of a body has at least one byte, so the offset rises.
  pub found_rises : (allowed : Spelling) (progress progress' : Progress) (now new : Decoder R) (body : Body)
      → AdvancesTo source k allowed progress now (Ok (Some body)) progress' new → now.offset < new.offset
  found_rises allowed progress progress' now new body all = grind arith
