use Rattle.capi.proofs.ViewLaws.{no_split, within_found}
use Rattle.capi.proofs.items.items_of.Goals as goal

pub returns-in_default : goal.returns-in_default
returns-in_default c items levels has =
    no_split c.args.bytes.now has.contents has.header c.in_default.ensures has.split

pub returns : goal.returns
returns c =
    within_found c.args.depth c.args.bytes.now c.in-Some.contents.now c.in-Some.header c.within.result
    c.in-Some.ensures c.within.ensures
