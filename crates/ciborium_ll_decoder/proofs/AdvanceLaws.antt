-- The titles of a string, one after the other.
use Rattle.std.proofs.Common.{[], inr, Some, ◌≤◌, ◌≡◌, ℕ, suc, ◌+◌, ◌-◌, ◌⊎◌, List, ◌++◌, length, Option}
use Rattle.std.proofs.Common.{None, Result, Ok, inl, arith, add-one, length-append}
use Rattle.ciborium_ll_io.specs.declared.io.Read.{Ghosts}
use Rattle.ciborium_ll_grammar.specs.declared.spelling.Spelling.{Spelling}
use Rattle.ciborium_ll_grammar.specs.declared.spelling.Spelling.TheVariants.{Shortest}
use Rattle.ciborium_ll_grammar.specs.declared.hdr.Header.{Header}
use Rattle.ciborium_ll_decoder.specs.declared.dec.Decoder.{Decoder}
use Rattle.ciborium_ll_decoder.specs.declared.dec.Error.{Error}
use Rattle.ciborium_ll_decoder.specs.declared.seg.Body.{Body}
use Rattle.ciborium_ll_decoder.specs.declared.seg.Progress.{Progress}
use Rattle.ciborium_ll_decoder.specs.declared.seg.Progress.TheVariants as p
use Rattle.ciborium_ll_decoder.specs.declared.seg.Parser.{Ghosts as Parser}
use Rattle.ciborium_ll_decoder.specs.declared.seg.Segment.{Segment}
use Rattle.ciborium_ll_grammar.specs.Strings.{Kind}
use Rattle.ciborium_ll_decoder.specs.Decoding.{IsSteady, ReadsPast, PullsTitle}
use Rattle.ciborium_ll_decoder.specs.Segments.{Nests, in_place, deeper, back, AdvancesFrom, AdvancesTo, EndsAdvance}
use Rattle.ciborium_ll_decoder.specs.Segments.{GivesAgain, StepsOver, Deepens, ClosesInner}
use Rattle.ciborium_ll_decoder.specs.Progress.{opens_of}
use Rattle.ciborium_ll_decoder.specs.Chunks.{SegmentsPull}
use Rattle.ciborium_ll_decoder.proofs.DecodingLaws.{ReadsPast-none, ReadsPast-pull}
use Rattle.ciborium_ll_decoder.proofs.NestLaws.{alone_bytes, open_alone, open_length, nests_zero, nests_counted}

module _ {R E : Type 0} (source : Ghosts R E) (kind : Kind) (allowed : Spelling) where
  -- Titles were pulled, and all of them led on. After them, `left` opens are not closed.
  pub record LeadsTo (opens : ℕ) (old : Decoder R) (left : ℕ) (now : Decoder R) : Type 0 where
    pub nest : List ℕ
    pub nests : Nests kind opens nest left
    pub passed : ReadsPast source old nest now
    pub shallow : allowed ≡ Shortest → opens + length nest ≤ 1

  -- The invariant of the loop over titles: the titles led on, or ended the string. After an answer that stays, nothing
  -- changed.
  abbrev pub Reached : Progress → Decoder R → Progress → Decoder R → Type 0
  Reached (p.Open opens) old progress now =
      ((left : ℕ) × (progress ≡ p.Open left) × LeadsTo opens old left now) ⊎ AdvancesFrom source kind allowed opens old
      (Ok None) progress now
  Reached p.Ended old progress now = (progress ≡ p.Ended) × (now ≡ old)
  Reached (p.Damaged place) old progress now = (progress ≡ p.Damaged place) × (now ≡ old)
  Reached p.TooDeep old progress now = (progress ≡ p.TooDeep) × (now ≡ old)

  leads_start : (opens : ℕ) (decoder : Decoder R) → (allowed ≡ Shortest → opens ≤ 1)
      → LeadsTo opens decoder opens decoder
  leads_start opens decoder few =
      let passed = ReadsPast-none source decoder in
      let none : Nests kind opens [] opens = in_place in
      search arith

  pub Reached-start : (progress : Progress) (decoder : Decoder R) → (allowed ≡ Shortest → opens_of progress ≤ 1)
      → Reached progress decoder progress decoder
  Reached-start progress decoder few = grind (arith, leads_start)

  module _ (opens left : ℕ) (old now new : Decoder R) (led : LeadsTo opens old left now)
      (steady : IsSteady source now → IsSteady source new) where
    -- The row so far, and one more title that leads on.
    leads_on : (left' : ℕ) (header : Header) (pulled : PullsTitle source now header new)
        → Nests kind opens (led.nest ++ pulled.title) left'
        → (allowed ≡ Shortest → opens + length (led.nest ++ pulled.title) ≤ 1) → LeadsTo opens old left' new
    leads_on left' header pulled nests shallow = search (ReadsPast-pull, arith)

    leads_deeper : (after : Progress) → Deepens source kind allowed left now after new
        → LeadsTo opens old (left + 1) new
    leads_deeper after step = leads_on (left + 1) _ step.pulled (rw add-one (deeper led.nests step.pulled.is_title))
        (grind (arith, nests_zero, alone_bytes, open_alone, open_length, length-append {A = ℕ}))

    leads_back : (after : Progress) → ClosesInner source kind left now after new → LeadsTo opens old (left - 1) new
    leads_back after step =
        let two : left ≡ suc (suc (left - 2)) = omega (arith, step.inner) in
        let one : suc (left - 2) ≡ left - 1 = omega (arith, step.inner) in
        leads_on (left - 1) _ step.pulled (rw one at (back (rw two at led.nests) step.pulled.is_title))
        (grind (arith, nests_counted))

  -- The row so far, and then the title that decides.
  ends_from : (opens left : ℕ) (old now new : Decoder R) (result : Result (Option Body) (Error E)) (after : Progress)
      → LeadsTo opens old left now → EndsAdvance source kind allowed left now result after new
      → AdvancesFrom source kind allowed opens old result after new
  ends_from opens left old now new result after led ends = search

  -- If a title is due, the titles led on, because a string that has ended has no open left.
  led_to : (opens left : ℕ) (old now : Decoder R) → Reached (p.Open opens) old (p.Open left) now
      → LeadsTo opens old left now
  led_to opens left old now (inl led) = let same : led.0 ≡ left = let f = led.1 in cc in rw same at led.2
  led_to opens left old now (inr all) = absurd (let f = all.ends.after in cc)

  pub Reached-step : (first : Progress) (left : ℕ) (old now new : Decoder R) (after : Progress)
      → Reached first old (p.Open left) now → (IsSteady source now → IsSteady source new)
      → StepsOver source kind allowed left now (Ok None) after new → Reached first old after new
  Reached-step (p.Open opens) left old now new after r steady step =
      let led = led_to opens left old now r in
      elim step [
        | inl closes ↦ inr (ends_from opens left old now new (Ok None) after led closes)
        | inr (inl deepens) ↦ inl (
          left + 1,
          deepens.after,
          leads_deeper opens left old now new led steady after
              deepens,
        )
        | inr (inr inner) ↦ inl (left - 1, inner.after, leads_back opens left old now new led steady after inner)
      ]
  Reached-step first left old now new after r steady step = absurd (let f = r.0 in cc)

  -- A title that decides gives the answer of `advance`.
  pub Reached-ends : (first : Progress) (left : ℕ) (old now new : Decoder R)
      (result : Result (Option Body) (Error E)) (after : Progress) → Reached first old (p.Open left) now
      → EndsAdvance source kind allowed left now result after new
      → AdvancesTo source kind allowed first old result after
      new
  Reached-ends (p.Open opens) left old now new result after r ends =
      ends_from opens left old now new result after (led_to opens left old now r) ends
  Reached-ends first left old now new result after r ends = absurd (let f = r.0 in cc)

  -- After the title of a body no header waits.
  pub none_waits_for_body : (first : Progress) (old : Decoder R) (body : Body) (after : Progress) (new : Decoder R)
      → AdvancesTo source kind allowed first old (Ok (Some body)) after new → new.waiting ≡ None
  none_waits_for_body first old body after new advanced = grind arith

module _ {R E P : Type 0} {parser : Parser P} (source : Ghosts R E) (kind : Kind) (allowed : Spelling) where
  -- After an answer that stays, `pull` gives that answer again.
  pub given_again : (progress : Progress) (old : Decoder R) (result : Result (Option (Segment R P parser)) (Error E))
      → SegmentsPull source kind allowed progress old result → GivesAgain progress result
  given_again progress old result pulls = grind arith
