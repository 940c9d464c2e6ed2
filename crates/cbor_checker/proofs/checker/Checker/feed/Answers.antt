use Rattle.std.proofs.Common.{◌∙◌, ap, arith, rules, sym}
use Rattle.cbor_checker.specs.Checking.{Answers, HasRead, spot_of}
use Rattle.cbor_checker.specs.Places.{spot_in}
use Rattle.cbor_checker.specs.Spots.{Spot}
use Rattle.cbor_checker.specs.Telling.{progress_of}
use Rattle.cbor_checker.proofs.ReadLaws.{all_taken, answer_stays, answers_piece, off_at, reads}
use Rattle.cbor_checker.proofs.checker.Checker.feed.Goals as goal

pub returns-clause-all : goal.returns-clause-all
returns-clause-all c = all_taken _ _ c.take-taken.ensures.taken c.tell.ensures.all

pub returns-clause-long : goal.returns-clause-long
returns-clause-long c = λ is. search (rules, c.tell.ensures.long is)

pub returns-clause-read : goal.returns-clause-read
unfolding HasRead
returns-clause-read c = λ allowed depth read is.
    let taken = c.take-taken.ensures in
    let kinds = c.take-taken.new.kinds in
    let counts = c.take-taken.new.counts in
    let new : Spot = spot_in c.take-taken.new.self kinds counts in
    let now = taken.fed allowed depth read is in (
      now,
      reads allowed depth read c.args.bytes.now (record { taken = c.take-taken.result; progress = c.tell.result }) new
          taken.taken (returns-clause-all c) (returns-clause-long c) now
          (c.tell.ensures.tells kinds counts allowed depth _ now) (omega (arith, taken.counted allowed depth read is)),
    )

pub returns-clause-is : goal.returns-clause-is
returns-clause-is c =
    answers_piece c.tell.result _ (c.tell.ensures.answers c.take-taken.new.kinds c.take-taken.new.counts)

pub returns-clause-stays : goal.returns-clause-stays
unfolding Answers
returns-clause-stays c = λ progress is none.
    let kinds = c.take-taken.new.kinds in
    let counts = c.take-taken.new.counts in
    let old : Spot = spot_of c.args.self.now in
    let new : Spot = spot_in c.take-taken.new.self kinds counts in
    let stays = c.take-taken.ensures.stays (off_at progress old is none) in (
      stays.0,
      answer_stays progress c.tell.result old new is none stays.1 (c.tell.ensures.answers kinds counts),
      is ∙ ap progress_of (sym stays.1),
    )
