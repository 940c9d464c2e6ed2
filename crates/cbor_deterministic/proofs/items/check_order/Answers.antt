use Rattle.std.proofs.Common.{sym, subst, List, ℕ}
use Rattle.cbor_deterministic.specs.declared.Why.TheVariants.{DuplicateKey}
use Rattle.cbor_deterministic.specs.Refusals.{FailsOrder, duplicate, out_of_order}
use Rattle.cbor_deterministic.proofs.items.check_order.Goals as goal

pub returns-in-Equal : goal.returns-in-Equal
returns-in-Equal c =
    subst (λ (z : List ℕ). FailsOrder c.args.order z c.args.key.now DuplicateKey) (sym c.in-Equal.ensures) duplicate

pub returns-in-Greater : goal.returns-in-Greater
returns-in-Greater c = out_of_order c.in-Greater.ensures
