use Rattle.capi.proofs.keys.value_of_integer.Goals as goal

pub returns-then-is_negative-clause-found : goal.returns-then-is_negative-clause-found
returns-then-is_negative-clause-found c = rw c.if-is_negative.true c.get_negative.ensures.found

pub returns-else-is_negative-clause-found : goal.returns-else-is_negative-clause-found
returns-else-is_negative-clause-found c = rw c.if-is_negative.false c.get_positive.ensures.found
