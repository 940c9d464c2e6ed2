-- The spot of a checker that got the beginning of one title.
use Rattle.std.proofs.Common.{◌≡◌, ℕ, ◌%◌, ◌≤◌, ◌⊎◌, inl, inr, List, [], ◌∷◌, ◌++◌, length, refl, sym, ap}
use Rattle.std.proofs.Common.{subst, ◌∙◌, arith, append-nil, length-append}
use Rattle.ciborium_ll_grammar.specs.declared.spelling.Spelling.{Spelling}
use Rattle.ciborium_ll.specs.Types.Header.{Header}
use Rattle.ciborium_ll.specs.Title.{IsTitle, IsCutTitle, affix_len}
use Rattle.ciborium_ll.proofs.AffixLaws.{announced, title_not_cut}
use Rattle.cbor_checker.specs.declared.checker.Checker.{Checker}
use Rattle.cbor_checker.specs.declared.phase.Phase.{Phase}
use Rattle.cbor_checker.specs.declared.phase.Phase.TheVariants as p
use Rattle.cbor_checker.specs.declared.progress.Progress.TheVariants as r
use Rattle.cbor_checker.specs.Checking.{Answers, HasRead, spot_of}
use Rattle.cbor_checker.specs.Spots.{Spot}
use Rattle.cbor_checker.specs.Steps.{IsFed, fresh, more, StepIn, TitleStep, cut, early, whole, none, with_byte}
use Rattle.cbor_checker.specs.Telling.{FaultIn, IsAtFault, progress_in, title_due}

-- A title is due, and all of its bytes so far are these bytes.
record AtTitle (bytes : List ℕ) (spot : Spot) : Type 0 where
  phase : spot.phase ≡ p.Title
  front : spot.front ≡ bytes

-- A cut title is also cut without its last byte.
cut_sooner : (bytes : List ℕ) (b : ℕ) → IsCutTitle (bytes ++ b ∷ []) → IsCutTitle bytes
cut_sooner [] b is_cut = tt
cut_sooner (first ∷ bytes) b is_cut = omega (arith, is_cut, length-append bytes (b ∷ []))

-- No byte comes after a fault.
no_step : (phase : Phase) (spot new : Spot) (b : ℕ) → FaultIn phase → StepIn phase spot b new → ⊥
no_step (p.Faulted fault) spot new b has step = step
no_step p.Title spot new b has step = has
no_step (p.Bytes left) spot new b has step = has
no_step (p.Text left state) spot new b has step = has
no_step p.Ended spot new b has step = has

-- With one byte more of a cut title, the title stays due or a fault comes.
title_goes : (bytes : List ℕ) (b : ℕ) (spot new : Spot) → AtTitle bytes spot → IsCutTitle (bytes ++ b ∷ [])
    → TitleStep (with_byte b spot) new → AtTitle (bytes ++ b ∷ []) new ⊎ IsAtFault new
title_goes bytes b spot new at is_cut (cut c some may) =
    inl (record { phase = at.phase; front = ap (λ (z : List ℕ). z ++ b ∷ []) at.front })
title_goes bytes b spot new at is_cut (early fault c some all) = inr tt
title_goes bytes b spot new at is_cut (whole header is_title taken) =
    let front : spot.front ++ b ∷ [] ≡ bytes ++ b ∷ [] = ap (λ (z : List ℕ). z ++ b ∷ []) at.front in
    absurd (title_not_cut (spot.front ++ b ∷ []) [] header is_title
    (subst IsCutTitle (sym front ∙ sym (append-nil (spot.front ++ b ∷ []))) is_cut))
title_goes bytes b spot new at is_cut (none never) = inr tt

at_title : (allowed : Spelling) (depth : ℕ) (bytes : List ℕ) (spot : Spot) → IsFed allowed depth bytes spot
    → IsCutTitle bytes → AtTitle bytes spot ⊎ IsAtFault spot
at_title allowed depth bytes spot fresh is_cut = inl (record { phase = refl; front = refl })
at_title allowed depth bytes spot (more {bytes = before} {spot = old} b byte fed step) is_cut =
    elim (at_title allowed depth before old fed (cut_sooner before b is_cut)) [
      | inl at ↦ title_goes before b old spot at is_cut (subst (λ (z : Phase). StepIn z old b spot) at.phase step)
      | inr has ↦ absurd (no_step old.phase old spot b has step)
    ]

fault_lacks_none : (phase : Phase) (spot : Spot) (due : ℕ) → FaultIn phase → progress_in phase spot ≡ r.More due → ⊥
fault_lacks_none (p.Faulted fault) spot due has lacks = absurd cc
fault_lacks_none p.Title spot due has lacks = has
fault_lacks_none (p.Bytes left) spot due has lacks = has
fault_lacks_none (p.Text left state) spot due has lacks = has
fault_lacks_none p.Ended spot due has lacks = has

title_lacks : (phase : Phase) (spot : Spot) (due : ℕ) → phase ≡ p.Title → progress_in phase spot ≡ r.More due
    → due ≡ title_due spot.front
title_lacks p.Title spot due at lacks = cc
title_lacks (p.Faulted fault) spot due at lacks = absurd cc
title_lacks (p.Bytes left) spot due at lacks = absurd cc
title_lacks (p.Text left state) spot due at lacks = absurd cc
title_lacks p.Ended spot due at lacks = absurd cc

-- A checker lacks as many bytes of a cut title as the title lacks.
pub cut_lacks : (allowed : Spelling) (depth : ℕ) (bytes : List ℕ) (checker : Checker) (due : ℕ)
    → HasRead allowed depth bytes checker → IsCutTitle bytes → Answers checker (r.More due) → due ≡ title_due bytes
unfolding HasRead Answers
cut_lacks allowed depth bytes checker due has_read is_cut lacks =
    let spot : Spot = spot_of checker in
    elim (at_title allowed depth bytes spot has_read is_cut) [
      | inl at ↦ title_lacks spot.phase spot due at.phase (sym lacks) ∙ ap title_due at.front
      | inr has ↦ absurd (fault_lacks_none spot.phase spot due has (sym lacks))
    ]

least_by : (bytes next affix : List ℕ) (first : ℕ) → bytes ++ next ≡ first ∷ affix
    → length affix ≡ affix_len (first % 32) → title_due bytes ≤ length next
least_by [] next affix first is long = let counted = ap length is in omega (arith, counted)
least_by (b ∷ bytes) next affix first is long =
    let counted = ap length is in
    let heads : b ≡ first = cc in
    let same : affix_len (b % 32) ≡ affix_len (first % 32) = ap (λ (z : ℕ). affix_len (z % 32)) heads in
    omega (arith, counted, same, long, length-append bytes next)

-- The bytes that complete a cut title are at least as many as are due.
pub title_least : (bytes next : List ℕ) (header : Header) → IsTitle (bytes ++ next) header
    → title_due bytes ≤ length next
title_least bytes next header is_title =
    let a = announced (bytes ++ next) header is_title in least_by bytes next a.affix a.byte a.is a.long
