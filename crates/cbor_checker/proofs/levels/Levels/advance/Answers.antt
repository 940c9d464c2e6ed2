use Rattle.std.proofs.Common.{◌∙◌, ◌-◌, arith, rules}
use Rattle.std.proofs.lemmas.List.{length-set}
use Rattle.cbor_checker.proofs.StackLaws.{counted_due, counted_some, some_levels}
use Rattle.cbor_checker.proofs.levels.Levels.advance.Goals as goal

pub invariant_of-self-clause-known : goal.invariant_of-self-clause-known
invariant_of-self-clause-known c =
    let l = c.args.self.now in
    counted_some l.len (l.len - 1) l.kinds.now l.counts.now _ (omega (arith, c.requires)) (search rules)
    (search rules) (search rules) (some_levels _ l.known)

pub returns-then-self-at-gt0-clause-due : goal.returns-then-self-at-gt0-clause-due
returns-then-self-at-gt0-clause-due c = λ yes depth spot.
    let l = c.args.self.now in
    counted_due l.len (l.len - 1) l.kinds.now l.counts.now _ (omega (arith, c.requires)) (search rules)
    (search rules) (search rules) (some_levels _ l.known) depth spot (search rules)

pub invariant_of-self-clause-counts_long : goal.invariant_of-self-clause-counts_long
invariant_of-self-clause-counts_long c = length-set c.args.self.now.counts.now _ _ ∙ c.args.self.now.counts_long
