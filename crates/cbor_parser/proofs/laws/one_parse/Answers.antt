use Rattle.std.proofs.Common.{◌∙◌, sym}
use Rattle.cbor_parser.proofs.OneParse.{one_parse}
use Rattle.cbor_parser.proofs.laws.one_parse.Goals as goal

pub returns : goal.returns
returns c = λ allowed bytes tokens others one other a b.
    let o = one_parse allowed bytes tokens others _ _ a.parsed b.parsed in (o.0, o.1, a.offset ∙ sym b.offset)
