use Rattle.std.proofs.Common.{◌-◌, arith}
use Rattle.ciborium_ll_text.proofs.BlockLaws.{moved}
use Rattle.ciborium_ll_text.proofs.blocks.follow.Goals as goal

pub returns : goal.returns
returns c t i a b =
    moved c.args.bytes.now c.args.at i c.requires.from a b (c.may_follow.ensures t (i - c.args.at) (omega arith))
