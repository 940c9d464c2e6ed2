use Rattle.std.proofs.Common.{rules}
use Rattle.cbor_canonical.specs.Places.{nowhere}
use Rattle.cbor_canonical.proofs.PlaceRuns.{saved_high, cell_there}
use Rattle.cbor_canonical.proofs.pairs.saved_byte.Goals as goal

pub returns-in-Some-2 : goal.returns-in-Some-2
returns-in-Some-2 c = λ bytes saved l.
    saved_high bytes c.args.spans.now c.args.at c.in-Some.span.now (search rules) saved l c.if-at-eq0.false

pub returns-in-None : goal.returns-in-None
returns-in-None c = λ bytes saved l. absurd (cell_there bytes c.args.spans.now c.args.at nowhere saved l (search rules))
