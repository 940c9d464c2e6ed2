use Rattle.std.proofs.Common.{◌∙◌, ap, arith, rules, subst, sym}
use Rattle.cbor_checker.specs.Checking.{Answers, HasRead, HoldsSome, Keeps, Saves, spot_of}
use Rattle.cbor_checker.specs.Places.{spot_in}
use Rattle.cbor_checker.specs.Spots.{Spot}
use Rattle.cbor_checker.specs.Steps.{IsFed}
use Rattle.cbor_checker.specs.Telling.{is_due, IsAnswer}
use Rattle.cbor_checker.proofs.OneSpot.{one_spot}
use Rattle.cbor_checker.proofs.ReadLaws.{all_taken, answer_stays, answers_piece, off_at, reads}
use Rattle.cbor_checker.proofs.snapshot.Snapshot.feed.Goals as goal

pub returns-in_err-position-clause-read : goal.returns-in_err-position-clause-read
unfolding Keeps
returns-in_err-position-clause-read c = λ allowed depth read keeps.
    let (old, is, holds) = keeps in absurd (c.in_err-position.ensures.found old holds)

pub returns-in_err-position-clause-found : goal.returns-in_err-position-clause-found
unfolding HoldsSome
returns-in_err-position-clause-found c = λ holds. absurd (c.in_err-position.ensures.found holds.0 holds.1)

pub returns-clause-all : goal.returns-clause-all
returns-clause-all c = all_taken _ _ c.take-taken.ensures.taken c.tell.ensures.all

pub returns-clause-long : goal.returns-clause-long
returns-clause-long c = λ is. search (rules, c.tell.ensures.long is)

pub returns-clause-some : goal.returns-clause-some
unfolding HoldsSome
returns-clause-some c = (
  (_, c.in_ok-position.ensures.some),
  (_, c.save.ensures.holds c.take-taken.ensures.known),
)

pub returns-clause-stays : goal.returns-clause-stays
unfolding Answers Saves
returns-clause-stays c = λ checker progress holds is none.
    let same = c.in_ok-position.ensures.found (spot_of checker) holds in
    let kinds = c.take-taken.new.kinds in
    let counts = c.take-taken.new.counts in
    let new : Spot = spot_in c.take-taken.new.self kinds counts in
    let off = off_at progress (spot_of checker) is none in
    let stays = c.take-taken.ensures.stays (ap (λ (z : Spot). is_due z.phase) same ∙ off) in (
      stays.0,
      answer_stays progress c.tell.result (spot_of checker) new is none (stays.1 ∙ same)
          (c.tell.ensures.answers kinds counts),
    )

pub returns-clause-read : goal.returns-clause-read
unfolding Keeps
returns-clause-read c = λ allowed depth read keeps.
    let (old, is, holds) = keeps in
    let was = subst (IsFed allowed depth read) (sym (c.in_ok-position.ensures.found old holds)) is in
    let taken = c.take-taken.ensures in
    let kinds = c.take-taken.new.kinds in
    let counts = c.take-taken.new.counts in
    let new : Spot = spot_in c.take-taken.new.self kinds counts in
    let now = taken.fed allowed depth read was in (
      (new, now, c.save.ensures.holds taken.known),
      reads allowed depth read c.args.bytes.now (record { taken = c.take-taken.result; progress = c.tell.result }) new
          taken.taken (returns-clause-all c) (returns-clause-long c) now
          (c.tell.ensures.tells kinds counts allowed depth _ now) (omega (arith, taken.counted allowed depth read was)),
    )

pub returns-clause-is : goal.returns-clause-is
unfolding HasRead Keeps
returns-clause-is c = λ allowed depth read keeps checker has_read.
    let (old, is, holds) = keeps in
    let was = subst (IsFed allowed depth read) (sym (c.in_ok-position.ensures.found old holds)) is in
    let kinds = c.take-taken.new.kinds in
    let counts = c.take-taken.new.counts in
    let new : Spot = spot_in c.take-taken.new.self kinds counts in
    let same =
    one_spot allowed depth _ new (spot_of checker) (c.take-taken.ensures.fed allowed depth read was) has_read in
    answers_piece c.tell.result checker
    (subst (IsAnswer c.tell.result) same (c.tell.ensures.answers kinds counts))
