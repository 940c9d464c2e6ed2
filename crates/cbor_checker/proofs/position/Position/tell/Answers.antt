use Rattle.std.proofs.Common.{inl, inr, refl, arith, subst, sym}
use Rattle.cbor_checker.specs.Places.{spot_in}
use Rattle.cbor_checker.specs.Spots.{Spot}
use Rattle.cbor_checker.specs.Reading.{IsMore, Tells}
use Rattle.cbor_checker.specs.declared.progress.Progress.{Progress}
use Rattle.cbor_checker.specs.Telling.{IsAnswer, is_due}
use Rattle.cbor_checker.proofs.TellLaws.{answered, due_more, fed_counts, goes_on, is_long, more_due, never_long, told}
use Rattle.cbor_checker.proofs.position.Position.tell.Goals as goal

pub returns-clause-all : goal.returns-clause-all
returns-clause-all c = λ left more.
    let now = c.args.self.now in
    let spot : Spot = spot_in now now.front now.front in
    elim (is_long c.args.left (is_due now.phase)) [
      | inl both ↦ subst IsMore (c.piece_answer.ensures.long both.0 both.1) more
      | inr rest ↦ rest left (more_due spot.phase spot (subst IsMore (c.piece_answer.ensures.told rest spot refl refl refl) more))
    ]

pub returns-clause-long : goal.returns-clause-long
returns-clause-long c = λ is.
    let now = c.args.self.now in
    let spot : Spot = spot_in now now.front now.front in
    elim (is_long c.args.left (is_due now.phase)) [
      | inl both ↦ both.0
      | inr rest ↦ let told = c.piece_answer.ensures.told rest spot refl refl refl in absurd (never_long spot.phase spot cc)
    ]

pub returns-clause-tells : goal.returns-clause-tells
returns-clause-tells c = λ kinds counts allowed depth fed is.
    let now = c.args.self.now in
    let spot : Spot = spot_in now kinds counts in
    elim (is_long c.args.left (is_due now.phase)) [
      | inl both ↦ subst (Tells allowed depth fed) (sym (c.piece_answer.ensures.long both.0 both.1)) (
        goes_on allowed depth fed spot is both.1,
        omega (arith, c.requires.full both.0 both.1, fed_counts allowed depth fed spot is),
      )
      | inr rest ↦ told allowed depth fed _ _ (c.piece_answer.ensures.told rest spot refl refl refl) is now.left now.begun
    ]

pub returns-clause-answers : goal.returns-clause-answers
returns-clause-answers c = λ kinds counts.
    let now = c.args.self.now in
    let spot : Spot = spot_in now kinds counts in
    elim (is_long c.args.left (is_due now.phase)) [
      | inl both ↦ subst (λ (z : Progress). IsAnswer z spot) (sym (c.piece_answer.ensures.long both.0 both.1))
          (due_more spot.phase spot both.1)
      | inr rest ↦ answered _ spot (c.piece_answer.ensures.told rest spot refl refl refl)
    ]
