use Rattle.std.proofs.Common.{arith}
use Rattle.ciborium_ll_grammar.proofs.TitleRowLaws.{row_says}
use Rattle.ciborium_ll_grammar.proofs.hdr.table.row_of.Goals as goal

pub returns : goal.returns
returns c = row_says c.args.first (omega arith)
