use Rattle.capi.proofs.ViewLaws.{finds_value}
use Rattle.capi.proofs.keys.by_text.Goals as goal

pub returns-in-Some : goal.returns-in-Some
returns-in-Some c =
    finds_value _ c.args.item.now c.in-Some.view c.get_text.result c.hand_out.result c.args.value.now c.hand_out.new.value
    c.in-Some.ensures.0 c.in-Some.ensures.1 c.in-Some.ensures.2 c.get_text.ensures.found c.hand_out.ensures
