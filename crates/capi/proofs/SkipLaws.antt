-- The result of a skip by a fresh decoder, as a fact of the bytes ahead.
use Rattle.std.proofs.Common.{◌≡◌, ℕ, ◌∙◌, ◌↔◌, IsOk, List, Result, Ok, Err}
use Rattle.std.proofs.Common.{ap, sym, subst, refl, arith}
use Rattle.ciborium_ll_grammar.specs.declared.spelling.Spelling.{Spelling}
use Rattle.ciborium_ll_grammar.specs.declared.spelling.Spelling.TheVariants.{Any}
use Rattle.ciborium_ll.specs.Types.Read.{Ghosts}
use Rattle.ciborium_ll.specs.Types.Decoder.{Decoder}
use Rattle.ciborium_ll.specs.Types.Error.TheVariants as e
use Rattle.ciborium_ll.specs.Faults.{Syntax}
use Rattle.ciborium_ll.specs.Decoding.{spelling_of}
use Rattle.cbor_skip.specs.declared.SkipError.{SkipError}
use Rattle.cbor_skip.specs.declared.SkipError.TheVariants as s
use Rattle.cbor_skip.specs.ItemFaults.{BeginsWithItem}
use Rattle.cbor_skip.specs.SkippingTold.{SkipsTold}
use Rattle.capi.specs.declared.answer.CllAnswer.{CllAnswer}
use Rattle.capi.specs.declared.answer.CllAnswer.TheVariants as a
use Rattle.capi.specs.declared.answer.CllReport.{CllReport}
use Rattle.capi.specs.Answers.{Reports}
use Rattle.capi.specs.Skipping.{Skips, skip_answer, skip_place}

module _ {R E : Type 0} (source : Ghosts R E) where
  pub skip_reported : (depth : ℕ) (due : List ℕ) (old new : Decoder R) (result : Result (Unit {0}) (SkipError E))
      (report : CllReport) → SkipsTold source Any depth due old result new → old.offset ≡ 0
      → Reports report new.offset 0 (skip_place result) → Skips depth due (skip_answer result) report
  skip_reported depth due old new (Ok done) report told start reports = (
    told.front,
    record {
      consumed_is = omega (arith, reports.consumed_is, told.offset, start);
      written_is = reports.written_is;
      none_counted = reports.none_counted;
      none_whole = reports.none_whole;
      none_spelled = reports.none_spelled;
      place_is = reports.place_is;
    },
  )
  skip_reported depth due old new (Err (s.Read (e.Io fault))) report told start reports = (
    told.fault,
    told.answered,
    record {
      consumed_is = omega (arith, reports.consumed_is, told.offset, start);
      written_is = reports.written_is;
      none_counted = reports.none_counted;
      none_whole = reports.none_whole;
      none_spelled = reports.none_spelled;
      place_is = refl;
    },
  )
  skip_reported depth due old new (Err (s.Read (e.Syntax place))) report told start reports =
      let named : told.0 ≡ report.place = omega (arith, told.1, start, reports.place_is) in
      let met = told.2 in (
        met.fault,
        met.answered ∙ ap Syntax named,
        record {
          consumed_is = omega (arith, reports.consumed_is, met.offset, start);
          written_is = reports.written_is;
          none_counted = reports.none_counted;
          none_whole = reports.none_whole;
          none_spelled = reports.none_spelled;
          place_is = refl;
        },
      )
  skip_reported depth due old new (Err (s.Read e.TooLong)) report told start reports = absurd told
  skip_reported depth due old new (Err (s.Read e.Waiting)) report told start reports = absurd told
  skip_reported depth due old new (Err (s.Break place)) report told start reports = (
    told.fault,
    record {
      consumed_is = omega (arith, reports.consumed_is, told.offset, told.place, start);
      written_is = reports.written_is;
      none_counted = reports.none_counted;
      none_whole = reports.none_whole;
      none_spelled = reports.none_spelled;
      place_is = omega (arith, reports.place_is, told.place, start);
    },
  )
  skip_reported depth due old new (Err (s.Deep place)) report told start reports = (
    told.fault,
    record {
      consumed_is = omega (arith, reports.consumed_is, told.offset, told.place, start);
      written_is = reports.written_is;
      none_counted = reports.none_counted;
      none_whole = reports.none_whole;
      none_spelled = reports.none_spelled;
      place_is = omega (arith, reports.place_is, told.place, start);
    },
  )

  pub skip_said : (depth : ℕ) (due : List ℕ) (old new : Decoder R) (result : Result (Unit {0}) (SkipError E))
      (report : CllReport) (answer : CllAnswer) (place count : ℕ)
      → SkipsTold source (spelling_of old) depth due old result new
      → spelling_of old ≡ Any → old.offset ≡ 0 → answer ≡ skip_answer result → place ≡ skip_place result
      → count ≡ new.offset
      → Reports report count 0 place → Skips depth due answer report
  skip_said depth due old new result report answer place count told mode start same named behind reports =
      let lenient = subst (λ (b : Spelling). SkipsTold source b depth due old result new) mode told in
      let said = skip_reported depth due old new result report lenient start record {
        consumed_is = reports.consumed_is ∙ behind;
        written_is = reports.written_is;
        none_counted = reports.none_counted;
        none_whole = reports.none_whole;
        none_spelled = reports.none_spelled;
        place_is = reports.place_is ∙ named;
      } in
      subst (λ (x : CllAnswer). Skips depth due x report) (sym same) said

-- The answer is `Ok` exactly if the skip succeeded.
pub skip_answers_ok : {E : Type 0} (result : Result (Unit {0}) (SkipError E))
    → (skip_answer result ≡ a.Ok) ↔ IsOk result
skip_answers_ok (Ok done) = (λ same. cc, λ ok. refl)
skip_answers_ok (Err (s.Read (e.Io fault))) = (λ same. absurd cc, λ ok. absurd cc)
skip_answers_ok (Err (s.Read (e.Syntax place))) = (λ same. absurd cc, λ ok. absurd cc)
skip_answers_ok (Err (s.Read e.TooLong)) = (λ same. absurd cc, λ ok. absurd cc)
skip_answers_ok (Err (s.Read e.Waiting)) = (λ same. absurd cc, λ ok. absurd cc)
skip_answers_ok (Err (s.Break place)) = (λ same. absurd cc, λ ok. absurd cc)
skip_answers_ok (Err (s.Deep place)) = (λ same. absurd cc, λ ok. absurd cc)

pub skip_exactly : {E : Type 0} (allowed : Spelling) (depth : ℕ) (due : List ℕ)
    (result : Result (Unit {0}) (SkipError E))
    (answer : CllAnswer) → answer ≡ skip_answer result → IsOk result ↔ BeginsWithItem allowed depth due → allowed ≡ Any
    → (answer ≡ a.Ok) ↔ BeginsWithItem Any depth due
skip_exactly allowed depth due result answer same exact mode =
    let ok = skip_answers_ok result in
    let lenient = subst (λ (b : Spelling). IsOk result ↔ BeginsWithItem b depth due) mode exact in
    (λ is. lenient.0 (ok.0 (sym same ∙ is)), λ holds. same ∙ ok.1 (lenient.1 holds))
