use Rattle.std.proofs.Common.{◌/◌, arith}
use Rattle.std.proofs.lemmas.Simd.{zip2_splat}
use Rattle.ciborium_ll_text.specs.declared.blocks.TheConstants.{FIRST_HIGH}
use Rattle.ciborium_ll_text.proofs.BlockLaws.{down, high_ok, looked_up}
use Rattle.ciborium_ll_text.proofs.blocks.by_first_high.Goals as goal

pub swizzle : goal.swizzle
swizzle c = high_ok c.args.first c.fits-first

pub returns : goal.returns
returns c =
    looked_up FIRST_HIGH (λ x. x / 16) c.args.first _ c.fits-first (zip2_splat down c.args.first 16 4 c.fits-first.0)
    (λ x h. omega arith)
