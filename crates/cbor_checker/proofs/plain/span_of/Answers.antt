use Rattle.std.proofs.Common.{arith}
use Rattle.cbor_checker.proofs.PlainLaws.{span_says}
use Rattle.cbor_checker.proofs.plain.span_of.Goals as goal

pub returns : goal.returns
returns c =
    let says = span_says c.args.first c.from.result c.from-2.result (omega arith) c.from.ensures c.from-2.ensures in
    record { span = says.0; less = says.1.0; most = says.1.1 }
