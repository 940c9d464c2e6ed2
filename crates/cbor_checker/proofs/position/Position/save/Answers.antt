use Rattle.std.proofs.Common.{refl, rules}
use Rattle.cbor_checker.proofs.StackLaws.{some_levels}
use Rattle.cbor_checker.proofs.position.Position.save.Goals as goal

pub returns-clause-holds : goal.returns-clause-holds
returns-clause-holds c = λ known. record {
  phase = c.numbers-phase.ensures;
  allowed = search rules;
  title = c.save_into.ensures.saved;
  within = c.numbers-strings.ensures;
  depth = refl;
  levels = some_levels _ known;
  place = refl;
  offset = refl;
  is_state = search rules;
}
