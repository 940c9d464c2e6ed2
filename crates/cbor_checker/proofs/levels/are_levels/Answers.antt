use Rattle.std.proofs.Common.{sym, ◌∙◌, rules}
use Rattle.cbor_checker.proofs.StackLaws.{levels_none}
use Rattle.cbor_checker.proofs.levels.are_levels.Goals as goal

pub returns-then-is_none-clause-no : goal.returns-then-is_none-clause-no
returns-then-is_none-clause-no c = λ off.
    levels_none c.args.len c.loop-at.at c.args.kinds.now c.args.counts.now c.loop-at-test.true
    (sym c.level_of.ensures ∙ search rules)
