use Rattle.std.proofs.Common.{[], arith, take}
use Rattle.cbor_copier.specs.Copying.{Answers, HasCopied, held, pending, spot_of}
use Rattle.cbor_copier.specs.Spots.{putting}
use Rattle.cbor_copier.proofs.ReadLaws.{answers_piece, copies, last_off, last_stays, none_pending}
use Rattle.cbor_copier.proofs.copier.Copier.feed.Goals as goal

pub returns-clause-read : goal.returns-clause-read
unfolding HasCopied
returns-clause-read c = λ allowed count read written is.
    let took = c.take.ensures in
    let now = took.copied allowed count read written is in (
      now,
      copies allowed count read written c.args.bytes.now (take c.take.result.written c.take.new.out) _ c.take.result
          (putting [] (spot_of c.take.new.self)) took.taken took.all took.long now
          (took.tells allowed count read written is),
    )

pub returns-clause-is : goal.returns-clause-is
returns-clause-is c = answers_piece c.take.new.self c.take.result.progress c.take.ensures.answers

pub returns-clause-grown : goal.returns-clause-grown
unfolding held
returns-clause-grown c = omega (arith, c.take.ensures.grown)

pub returns-clause-none : goal.returns-clause-none
unfolding pending
returns-clause-none c = none_pending c.take.result.progress _ _ c.take.ensures.answers

pub returns-clause-fits : goal.returns-clause-fits
unfolding pending
returns-clause-fits c = c.take.ensures.fits

pub returns-clause-stays : goal.returns-clause-stays
unfolding Answers
returns-clause-stays c = λ progress is last.
    let old = spot_of c.args.self.now in
    let new = spot_of c.take.new.self in
    let off = last_off progress old.put old.phase is last in
    let stays = c.take.ensures.stays off.0 off.1 in
    let same = last_stays progress c.take.result.progress old new is last stays.2 c.take.ensures.answers in
    (stays.0, stays.1, same.0, same.1)
