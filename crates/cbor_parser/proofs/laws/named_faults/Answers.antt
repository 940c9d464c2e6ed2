use Rattle.std.proofs.Common.{subst}
use Rattle.cbor_parser.specs.Parsing.{IsParsed, Point}
use Rattle.cbor_parser.proofs.ElementTokens.{named}
use Rattle.cbor_parser.proofs.laws.named_faults.Goals as goal

pub returns : goal.returns
returns c = λ allowed bytes tokens place parser is at.
    named allowed bytes tokens place (subst (λ (q : Point). IsParsed allowed bytes tokens q) at is.parsed)
