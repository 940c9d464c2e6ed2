use Rattle.cbor_deterministic.specs.Refusals.{cut_title}
use Rattle.cbor_deterministic.proofs.title.next_preferred.Goals as goal

pub returns-in_default : goal.returns-in_default
returns-in_default c = cut_title c.in_default.ensures.none
