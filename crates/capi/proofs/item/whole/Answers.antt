use Rattle.std.proofs.Common.{arith}
use Rattle.std.proofs.lemmas.Bool.Decides.{nat_tests}
use Rattle.capi.proofs.ViewLaws.{no_view}
use Rattle.capi.proofs.item.whole.Goals as goal

pub returns-else-is_empty : goal.returns-else-is_empty
returns-else-is_empty c =
    no_view c.args.item.now c.in-Ok.view.bytes.now c.in-Ok.rest.now c.in-Ok.ensures.whole c.in-Ok.ensures.item
    (grind (arith, nat_tests))
