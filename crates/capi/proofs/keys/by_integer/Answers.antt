use Rattle.capi.specs.Viewing.{IsInteger, integer_of}
use Rattle.capi.proofs.ViewLaws.{finds_value}
use Rattle.capi.proofs.keys.by_integer.Goals as goal

pub returns-in-Some : goal.returns-in-Some
returns-in-Some c =
    finds_value (IsInteger (integer_of c.args.is_negative c.args.number)) c.args.item.now c.in-Some.view
    c.value_of_integer-found.result c.hand_out.result c.args.value.now c.hand_out.new.value c.in-Some.ensures.0
    c.in-Some.ensures.1 c.in-Some.ensures.2 c.value_of_integer-found.ensures.found c.hand_out.ensures
