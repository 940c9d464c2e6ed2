use Rattle.std.proofs.Common.{bit_and, arith}
use Rattle.std.proofs.lemmas.Nat.{and_le_r}
use Rattle.std.proofs.lemmas.Simd.{zip2_splat}
use Rattle.ciborium_ll_text.specs.declared.blocks.TheConstants.{FIRST_LOW}
use Rattle.ciborium_ll_text.proofs.BlockLaws.{low_ok, looked_up}
use Rattle.ciborium_ll_text.proofs.blocks.by_first_low.Goals as goal

pub swizzle : goal.swizzle
swizzle c = low_ok c.args.first c.fits-first

pub returns : goal.returns
returns c =
    looked_up FIRST_LOW (λ x. bit_and x 15) c.args.first _ c.fits-first
    (zip2_splat bit_and c.args.first 16 15 c.fits-first.0) (λ x h. omega (arith, and_le_r x 15))
