use Rattle.std.proofs.Common.{rules}
use Rattle.cbor_checker.proofs.StackLaws.{front_read, same_levels}
use Rattle.cbor_checker.proofs.levels.copy_levels.Goals as goal

pub returns : goal.returns
returns c =
    let len = c.args.len in
    same_levels len c.args.kinds.now c.args.counts.now _ _
    (λ i less. front_read _ c.copy_from_slice.new.self _ len i (search rules) (search rules) less)
    (λ i less. front_read _ c.copy_from_slice-2.new.self _ len i (search rules) (search rules) less)
