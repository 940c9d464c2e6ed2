use Rattle.std.proofs.Common.{refl}
use Rattle.ciborium_ll.proofs.DrainTold.{drains_told, text_exactly}
use Rattle.ciborium_ll.proofs.laws.drains.drain_text.Goals as goal

pub returns-clause-told : goal.returns-clause-told
returns-clause-told g c = λ body written ready.
    drains_told c.args.sizes.now ready _ _ c.drain.result c.drain.ensures.drains

pub returns-clause-any_sizes : goal.returns-clause-any_sizes
returns-clause-any_sizes g c = λ body written count ready enough.
    text_exactly c.args.sizes.now ready _ _ c.drain.result count refl enough
    (drains_told c.args.sizes.now ready _ _ c.drain.result c.drain.ensures.drains)
