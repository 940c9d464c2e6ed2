use Rattle.std.proofs.Common.{length, ◌<◌, refl, rules}
use Rattle.cbor_view.proofs.segments.SegmentsIterator.next.Goals as goal

pub invariant_of-self : goal.invariant_of-self
invariant_of-self c = record { are = c.in-Some.ensures.left }

pub returns-in-Some-clause-steps : goal.returns-in-Some-clause-steps
returns-in-Some-clause-steps c kind bodies s = c.in-Some.ensures.first kind bodies s

pub returns-in-Some-clause-goes : goal.returns-in-Some-clause-goes
returns-in-Some-clause-goes c =
    let shorter : length c.in-Some.rest.now < length c.args.self.now.rest.now = c.in-Some.ensures.shorter in
    search rules

pub returns-in-None-clause-steps : goal.returns-in-None-clause-steps
returns-in-None-clause-steps c kind bodies s = (c.in-None.ensures.first kind bodies s, refl)
