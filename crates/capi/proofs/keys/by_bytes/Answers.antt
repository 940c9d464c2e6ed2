use Rattle.capi.proofs.ViewLaws.{finds_value}
use Rattle.capi.proofs.keys.by_bytes.Goals as goal

pub returns-in-Some : goal.returns-in-Some
returns-in-Some c =
    finds_value _ c.args.item.now c.in-Some.view c.get.result c.hand_out.result c.args.value.now c.hand_out.new.value
    c.in-Some.ensures.0 c.in-Some.ensures.1 c.in-Some.ensures.2 c.get.ensures.found c.hand_out.ensures
