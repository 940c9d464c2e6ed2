use Rattle.capi.proofs.ViewLaws.{title_told}
use Rattle.capi.proofs.item.tell_header.Goals as goal

pub returns-in-Some-clause-told : goal.returns-in-Some-clause-told
returns-in-Some-clause-told c =
    title_told c.args.bytes.now c.in-Some.field-0-1.now c.in-Some.found c.of-parts.result c.in-Some.ensures
    c.of-parts.ensures
