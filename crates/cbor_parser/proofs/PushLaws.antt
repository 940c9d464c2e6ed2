-- What a push says of the tokens.
use Rattle.std.proofs.Common.{◌≡◌, ℕ, zero, suc, ◌+◌, ◌-◌, ◌%◌, ◌<◌, true, List, [], ◌∷◌, ◌++◌, length, take}
use Rattle.std.proofs.Common.{slice_index}
use Rattle.std.proofs.Common.{refl, sym, ap, subst, ◌∙◌, arith, length-append}
use Rattle.ciborium_ll_grammar.specs.declared.spelling.Spelling.{Spelling}
use Rattle.ciborium_ll_grammar.specs.Title.{IsCutTitle, affix_len}
use Rattle.ciborium_ll_text.specs.Text.{IsCharacters, IsStuck}
use Rattle.cbor_parser.specs.declared.event.Event.{Event}
use Rattle.cbor_parser.specs.declared.event.Event.TheVariants as e
use Rattle.cbor_parser.specs.declared.event.Pushed.{Pushed}
use Rattle.cbor_parser.specs.declared.parser.Parser.{Parser}
use Rattle.cbor_parser.specs.declared.strings.Within.{Within}
use Rattle.cbor_parser.specs.declared.phase.Phase.{Phase}
use Rattle.cbor_parser.specs.declared.phase.Phase.TheVariants as p
use Rattle.cbor_parser.specs.Phases.{bytes_left, carried_of, has_left}
use Rattle.cbor_parser.specs.Parsing.{AtFault, AtTitle, CanEnd, InText, IsParsed, Point, Token, due_of, left_of}
use Rattle.cbor_parser.specs.Parsing.{point_at, point_of}
use Rattle.cbor_parser.specs.Pushing.{Enters, HasPushed, Pushes, Tells, grown, text_point}
use Rattle.cbor_parser.proofs.ParseLaws.{bytes_lack, bytes_on, text_cut, text_fault, text_lacks, text_on, title_on}
use Rattle.cbor_parser.proofs.ParseLaws.{title_tells}

-- ---- small things

-- The same phase, strings and bytes have one point.
same_point : (ph ph' : Phase) (w w' : Within) (f f' : List ℕ) → ph ≡ ph' → w ≡ w' → f ≡ f'
    → point_at ph w f ≡ point_at ph' w' f'
same_point ph ph' w w' f f' a b c = rw (a, b, c) refl

-- Bytes that lack some are a cut title.
pub cut_of : (t : List ℕ) (due : ℕ) → 0 < due → length t + due ≡ 1 + affix_len (slice_index t 0 % 32) → IsCutTitle t
cut_of [] due some lacks = tt
cut_of (b ∷ t) due some lacks = omega (arith, some, lacks)

-- They lack as many.
pub due_is : (t : List ℕ) (within : Within) (due : ℕ) → 0 < length t
    → length t + due ≡ 1 + affix_len (slice_index t 0 % 32) → due ≡ due_of (AtTitle within t)
due_is [] within due some lacks = absurd (omega (arith, some))
due_is (b ∷ t) within due some lacks = omega (arith, lacks)

-- The first byte of a title does not depend on the bytes after it.
pub first_same : (front piece : List ℕ) (n : ℕ) → 0 < n
    → slice_index (front ++ take n piece) 0 ≡ slice_index (front ++ piece) 0
first_same (b ∷ front) piece n some = refl
first_same [] [] zero some = absurd (omega (arith, some))
first_same [] [] (suc n) some = refl
first_same [] (b ∷ piece) zero some = absurd (omega (arith, some))
first_same [] (b ∷ piece) (suc n) some = refl

-- A body that is due has bytes left.
pub has_some : (n place : ℕ) → 0 < n → has_left (p.Text n place) ≡ true
has_some zero place some = absurd (omega (arith, some))
has_some (suc n) place some = refl

-- The bytes that are kept of a text are stuck.
pub kept_stuck : (phase : Phase) (front : List ℕ) (left place : ℕ) → phase ≡ p.Text left place
    → IsStuck (carried_of phase front) → IsStuck front
kept_stuck phase front left place e stuck = subst (λ (q : Phase). IsStuck (carried_of q front)) e stuck

-- What was pushed, by a phase that is known.
at_phase : (allowed : Spelling) (before : List ℕ) (tokens : List Token) (old : Parser) (phase : Phase)
    → HasPushed allowed before tokens old → old.phase ≡ phase
    → IsParsed allowed before tokens (point_at phase old.within old.front)
at_phase allowed before tokens old phase is e =
    subst (λ (q : Phase). IsParsed allowed before tokens (point_at q old.within old.front)) e is.parsed

-- What is pushed, by the point.
pushed_of : (allowed : Spelling) (bytes : List ℕ) (tokens : List Token) (new : Parser) (point : Point)
    → IsParsed allowed bytes tokens point → point_of new ≡ point → new.spelling ≡ allowed → new.offset ≡ length bytes
    → HasPushed allowed bytes tokens new
pushed_of allowed bytes tokens new point parsed e spelling offset =
    record {
      parsed = subst (λ (q : Point). IsParsed allowed bytes tokens q) (sym e) parsed;
      spelling = spelling;
      offset = offset;
    }

-- ---- bodies

module _ (allowed : Spelling) (before : List ℕ) (tokens : List Token) (old new : Parser) (piece part : List ℕ)
    (rest : ℕ)
    (is : HasPushed allowed before tokens old) (spelling : new.spelling ≡ old.spelling)
    (offset : new.offset ≡ old.offset + length part) where
  counted : new.offset ≡ length (before ++ part)
  counted = omega (arith, offset, is.offset, length-append before part)

  -- A part of the body of a byte string.
  pub bytes_tells : (left : ℕ) → old.phase ≡ p.Bytes left → length part + rest ≡ left → new.phase ≡ bytes_left rest
      → new.within ≡ old.within → new.front ≡ [] → (0 < rest → part ≡ piece)
      → Tells allowed before tokens part piece (e.Body rest) new
  bytes_tells left phase e next within front all =
      let point = same_point new.phase (bytes_left rest) new.within old.within new.front [] next within front in
      let parsed = bytes_on allowed before tokens old.within left
      (at_phase allowed before tokens old (p.Bytes left) is phase) part rest e in (
        pushed_of allowed (before ++ part) (grown tokens part) new _ parsed point (spelling ∙ is.spelling) counted,
        bytes_lack rest old.within ∙ ap left_of (sym point),
        all,
      )

  module _ (left place : ℕ) (phase : old.phase ≡ p.Text left place) (lacks : length part + rest ≡ left) where
    at_text : IsParsed allowed before tokens (InText old.within old.front left place)
    at_text = at_phase allowed before tokens old (p.Text left place) is phase

    -- A part of a text.
    pub text_tells : IsCharacters (old.front ++ part) → point_of new ≡ text_point old.within rest place
        → Tells allowed before tokens part piece (e.Text old.front rest) new
    text_tells whole point = (
      pushed_of allowed (before ++ part) (grown tokens (old.front ++ part)) new _
          (text_on allowed before tokens old.within old.front left place at_text part rest lacks whole) point
          (spelling ∙ is.spelling) counted,
      whole,
      text_lacks rest place old.within ∙ ap left_of (sym point),
    )

    -- More of a character that is cut.
    pub cut_tells : part ≡ piece → IsStuck (old.front ++ part) → CanEnd (old.front ++ part) rest → 0 < rest
        → point_of new ≡ InText old.within (old.front ++ part) rest place
        → Tells allowed before tokens part piece (e.Need rest) new
    cut_tells all held goes some point = (
      all,
      pushed_of allowed (before ++ part) tokens new _
          (text_cut allowed before tokens old.within old.front left place at_text part rest lacks held goes some) point
          (spelling ∙ is.spelling) counted,
      ap due_of (sym point),
    )

    -- Bytes with which no text goes on.
    pub fault_tells : IsStuck (old.front ++ part) → (CanEnd (old.front ++ part) rest → ⊥) → point_of new ≡ AtFault place
        → Tells allowed before tokens part piece (e.Fault place) new
    fault_tells held stops point = (
      pushed_of allowed (before ++ part) tokens new _
          (text_fault allowed before tokens old.within old.front left place at_text part rest lacks held stops) point
          (spelling ∙ is.spelling) counted,
      point,
    )

  -- Bytes of a title that is not whole.
  pub need_tells : old.phase ≡ p.Title → part ≡ piece → 0 < length part → 0 < rest
      → length (old.front ++ part) + rest ≡ 1 + affix_len (slice_index (old.front ++ part) 0 % 32)
      → point_of new ≡ AtTitle old.within (old.front ++ part) → Tells allowed before tokens part piece (e.Need rest) new
  need_tells phase all some due lacks point =
      let cut = cut_of (old.front ++ part) rest due lacks in (
        all,
        pushed_of allowed (before ++ part) tokens new _
            (title_on allowed before tokens old.within old.front part
            (at_phase allowed before tokens old p.Title is phase) cut) point
            (spelling ∙ is.spelling) counted,
        due_is (old.front ++ part) old.within rest (omega (arith, some, length-append old.front part)) lacks
            ∙ ap due_of (sym point),
      )

  -- A whole title.
  pub whole_tells : (title : List ℕ) (start end : ℕ) (event : Event) → old.phase ≡ p.Title → title ≡ old.front ++ part
      → start ≡ old.offset - length old.front → end ≡ old.offset + length part
      → Enters old.spelling old.within title start end event (point_of new)
      → Tells allowed before tokens part piece event new
  whole_tells title start end event phase e from to enters =
      title_tells allowed before part piece tokens old.within old.front title start end event new
      (at_phase allowed before tokens old p.Title is phase) e (omega (arith, from, is.offset))
      (omega (arith, to, is.offset))
      (subst (λ (s : Spelling). Enters s old.within title start end event (point_of new)) is.spelling enters)
      (spelling ∙ is.spelling) (offset ∙ sym to)

-- An answer, by its event and what was taken.
pub pushes_of : (allowed : Spelling) (before : List ℕ) (tokens : List Token) (piece : List ℕ) (pushed : Pushed)
    (new : Parser) (taken : ℕ) (event : Event) → pushed.taken ≡ taken → pushed.event ≡ event
    → Tells allowed before tokens (take taken piece) piece event new → Pushes allowed before tokens piece pushed new
pushes_of allowed before tokens piece pushed new taken event a b tells = rw (a, b) tells
