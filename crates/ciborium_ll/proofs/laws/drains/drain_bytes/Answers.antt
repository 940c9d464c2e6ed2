use Rattle.std.proofs.Common.{refl}
use Rattle.ciborium_ll.proofs.DrainTold.{drains_told, bytes_exactly, bytes_soonest}
use Rattle.ciborium_ll.proofs.laws.drains.drain_bytes.Goals as goal

pub returns-clause-told : goal.returns-clause-told
returns-clause-told g c = λ body written ready.
    drains_told c.args.sizes.now ready _ _ c.drain.result c.drain.ensures.drains

pub returns-clause-exactly : goal.returns-clause-exactly
returns-clause-exactly g c = λ body written ready.
    bytes_exactly c.args.sizes.now ready _ _ c.drain.result refl
    (drains_told c.args.sizes.now ready _ _ c.drain.result c.drain.ensures.drains)

pub returns-clause-soonest : goal.returns-clause-soonest
returns-clause-soonest g c = λ body written count ready enough.
    bytes_soonest c.args.sizes.now ready _ _ c.drain.result count refl enough
    (drains_told c.args.sizes.now ready _ _ c.drain.result c.drain.ensures.drains)
