use Rattle.std.proofs.Common.{arith, ◌%◌, ◌<◌}
use Rattle.std.proofs.lemmas.Bool.Decides.{nat_tests}
use Rattle.ciborium_ll_grammar.proofs.TitleRowLaws.{shifts_say}
use Rattle.ciborium_ll_grammar.proofs.hdr.table.shift_of.Goals as goal

pub returns-clause-small : goal.returns-clause-small
returns-clause-small c = λ is.
    let minor : c.args.first % 32 < 32 = omega arith in
    let says = shifts_say (c.args.first % 32) minor in
    rw c.from.ensures (grind (arith, nat_tests, says))

pub returns-clause-none : goal.returns-clause-none
returns-clause-none c = λ is.
    let minor : c.args.first % 32 < 32 = omega arith in
    let says = shifts_say (c.args.first % 32) minor in
    rw c.from.ensures (grind (arith, nat_tests, says))
