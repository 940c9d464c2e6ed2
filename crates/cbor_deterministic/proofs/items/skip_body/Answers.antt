use Rattle.cbor_deterministic.specs.Refusals.{cut_bytes}
use Rattle.cbor_deterministic.proofs.items.skip_body.Goals as goal

pub returns-in-None : goal.returns-in-None
returns-in-None c = λ order depth at. cut_bytes c.in-None.ensures.cases
