use Rattle.cbor_deterministic.specs.Refusals.{cut_text, no_text}
use Rattle.cbor_deterministic.proofs.TitleRuns.{untold}
use Rattle.cbor_deterministic.proofs.items.skip_text.Goals as goal

pub returns-else-is_text : goal.returns-else-is_text
returns-else-is_text c = λ order depth. no_text c.in-Some.ensures.cases.0
    (λ u. untold c.is_text.result c.if-is_text.false c.is_text.ensures (rw (← c.in-Some.ensures.cases.1) at u))

pub returns-in-None : goal.returns-in-None
returns-in-None c = λ order depth. cut_text c.in-None.ensures.cases
