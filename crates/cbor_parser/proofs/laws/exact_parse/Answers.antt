use Rattle.cbor_parser.proofs.OneParse.{one_parse}
use Rattle.cbor_parser.proofs.laws.exact_parse.Goals as goal

pub returns : goal.returns
returns c = λ allowed bytes tokens others point parser a b. one_parse allowed bytes tokens others point _ a b.parsed
