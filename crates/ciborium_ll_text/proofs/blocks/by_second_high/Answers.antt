use Rattle.std.proofs.Common.{◌/◌, arith}
use Rattle.std.proofs.lemmas.Simd.{zip2_splat}
use Rattle.ciborium_ll_text.specs.declared.blocks.TheConstants.{SECOND_HIGH}
use Rattle.ciborium_ll_text.proofs.BlockLaws.{down, high_ok, looked_up}
use Rattle.ciborium_ll_text.proofs.blocks.by_second_high.Goals as goal

pub swizzle : goal.swizzle
swizzle c = high_ok c.args.second c.fits-second

pub returns : goal.returns
returns c =
    looked_up SECOND_HIGH (λ x. x / 16) c.args.second _ c.fits-second
    (zip2_splat down c.args.second 16 4 c.fits-second.0) (λ x h. omega arith)
