use Rattle.std.proofs.Common.{◌∙◌, rules, refl, ap}
use Rattle.std.proofs.lemmas.List.{length-set}
use Rattle.cbor_checker.specs.Stack.{levels_of}
use Rattle.cbor_checker.proofs.StackLaws.{levels_push, is_some, some_levels}
use Rattle.cbor_checker.proofs.levels.Levels.push.Goals as goal

pub invariant_of-self-clause-known : goal.invariant_of-self-clause-known
invariant_of-self-clause-known c =
    is_some _ _ (levels_push c.args.self.now.len _ _ _ _ _ c.args.level _ (search rules) (search rules) refl
    c.numbers_of-kind.ensures (some_levels _ c.args.self.now.known))

pub returns-clause-pushed : goal.returns-clause-pushed
returns-clause-pushed c =
    ap levels_of (levels_push c.args.self.now.len _ _ _ _ _ c.args.level _ (search rules) (search rules) refl
    c.numbers_of-kind.ensures (some_levels _ c.args.self.now.known))

pub invariant_of-self-clause-kinds_long : goal.invariant_of-self-clause-kinds_long
invariant_of-self-clause-kinds_long c = length-set c.args.self.now.kinds.now _ _ ∙ c.args.self.now.kinds_long

pub invariant_of-self-clause-counts_long : goal.invariant_of-self-clause-counts_long
invariant_of-self-clause-counts_long c = length-set c.args.self.now.counts.now _ _ ∙ c.args.self.now.counts_long
