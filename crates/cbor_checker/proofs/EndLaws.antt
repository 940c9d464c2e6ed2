-- The answer of a checker if no more bytes come.
use Rattle.ciborium_ll_grammar.specs.declared.spelling.Spelling.{Spelling}
use Rattle.std.proofs.Common.{◌≡◌, ◌∙◌, ℕ, Bool, true, false, List, refl, sym, ap, cond, ◌==◌}
use Rattle.std.proofs.lemmas.Bool.{eqb-true, eqb-false}
use Rattle.cbor_checker.specs.declared.checker.Checker.{Checker}
use Rattle.cbor_checker.specs.declared.phase.Fault.{Fault}
use Rattle.cbor_checker.specs.declared.progress.End.{End}
use Rattle.cbor_checker.specs.declared.progress.End.TheVariants as e
use Rattle.cbor_checker.specs.declared.progress.Progress.{Progress}
use Rattle.cbor_checker.specs.declared.progress.Progress.TheVariants as r
use Rattle.cbor_checker.specs.Checking.{Answers, AnswersEnd, HasRead, spot_of}
use Rattle.cbor_checker.specs.Spots.{Spot}
use Rattle.cbor_checker.specs.Telling.{end_in, end_of, progress_of}
use Rattle.cbor_checker.proofs.OneSpot.{one_spot}

-- ---- the end at a spot

none_by : (b : Bool) (spot : Spot) → (spot.offset == 0) ≡ b → spot.offset ≡ 0
    → e.Between ≡ cond b e.Between (end_in (progress_of spot))
none_by true spot is none = refl
none_by false spot is none = absurd (eqb-false spot.offset 0 is none)

-- Without any byte, the bytes end between items.
pub end_none : (spot : Spot) → spot.offset ≡ 0 → e.Between ≡ end_of spot
end_none spot none = none_by (spot.offset == 0) spot refl none

some_by : (b : Bool) (spot : Spot) → (spot.offset == 0) ≡ b → (spot.offset ≡ 0 → ⊥)
    → end_in (progress_of spot) ≡ cond b e.Between (end_in (progress_of spot))
some_by true spot is some = absurd (some (eqb-true spot.offset 0 is))
some_by false spot is some = refl

-- After some bytes, the end is that of the answer.
pub end_some : (spot : Spot) (progress : Progress) → progress ≡ progress_of spot → (spot.offset ≡ 0 → ⊥)
    → end_in progress ≡ end_of spot
end_some spot progress answers some = ap end_in answers ∙ some_by (spot.offset == 0) spot refl some

-- ---- the number and the fault

short_in : (b : Bool) (progress : Progress) (due : ℕ) → e.Short due ≡ cond b e.Between (end_in progress)
    → r.More due ≡ progress
short_in true progress due is = absurd cc
short_in false (r.More number) due is = cc
short_in false (r.Ended len) due is = absurd cc
short_in false (r.Fault fault) due is = absurd cc
short_in false r.TooLong due is = absurd cc

fault_in : (b : Bool) (progress : Progress) (fault : Fault) → e.Fault fault ≡ cond b e.Between (end_in progress)
    → r.Fault fault ≡ progress
fault_in true progress fault is = absurd cc
fault_in false (r.More number) fault is = absurd cc
fault_in false (r.Ended len) fault is = absurd cc
fault_in false (r.Fault found) fault is = cc
fault_in false r.TooLong fault is = absurd cc

pub short_answers : (checker : Checker) (due : ℕ) → AnswersEnd checker (e.Short due) → Answers checker (r.More due)
unfolding Answers AnswersEnd
short_answers checker due is =
    let spot : Spot = spot_of checker in short_in (spot.offset == 0) (progress_of spot) due is

pub fault_answers : (checker : Checker) (fault : Fault) → AnswersEnd checker (e.Fault fault)
    → Answers checker (r.Fault fault)
unfolding Answers AnswersEnd
fault_answers checker fault is =
    let spot : Spot = spot_of checker in fault_in (spot.offset == 0) (progress_of spot) fault is

-- ---- the same bytes, the same end

pub one_end : (s : Spelling) (d : ℕ) (read : List ℕ) (one other : Checker) (first second : End) → HasRead s d read one
    → HasRead s d read other → AnswersEnd one first → AnswersEnd other second → first ≡ second
unfolding HasRead AnswersEnd
one_end s d read one other first second is so says tells =
    let same = one_spot s d read (spot_of one) (spot_of other) is so in says ∙ (ap end_of same ∙ sym tells)

-- Checkers that have read the same bytes have the same end.
pub same_end : (s : Spelling) (d : ℕ) (read : List ℕ) (one other : Checker) (end : End) → HasRead s d read one
    → HasRead s d read other → AnswersEnd one end → AnswersEnd other end
unfolding HasRead AnswersEnd
same_end s d read one other end is so says =
    says ∙ ap end_of (one_spot s d read (spot_of one) (spot_of other) is so)
