use Rattle.std.proofs.Common.{◌∙◌, ap, arith, rules}
use Rattle.std.proofs.lemmas.List.{length-set}
use Rattle.cbor_checker.specs.Stack.{levels_of}
use Rattle.cbor_checker.proofs.StackLaws.{levels_put, is_some, some_levels}
use Rattle.cbor_checker.proofs.levels.Levels.replace.Goals as goal

pub invariant_of-self-clause-known : goal.invariant_of-self-clause-known
invariant_of-self-clause-known c =
    is_some _ _ (levels_put c.args.self.now.len _ _ _ _ _ c.args.level _ (omega (arith, c.requires)) (search rules)
    (search rules) c.numbers_of-kind.ensures (some_levels _ c.args.self.now.known))

pub returns-clause-put : goal.returns-clause-put
returns-clause-put c =
    ap levels_of (levels_put c.args.self.now.len _ _ _ _ _ c.args.level _ (omega (arith, c.requires)) (search rules)
    (search rules) c.numbers_of-kind.ensures (some_levels _ c.args.self.now.known))

pub invariant_of-self-clause-kinds_long : goal.invariant_of-self-clause-kinds_long
invariant_of-self-clause-kinds_long c = length-set c.args.self.now.kinds.now _ _ ∙ c.args.self.now.kinds_long

pub invariant_of-self-clause-counts_long : goal.invariant_of-self-clause-counts_long
invariant_of-self-clause-counts_long c = length-set c.args.self.now.counts.now _ _ ∙ c.args.self.now.counts_long
