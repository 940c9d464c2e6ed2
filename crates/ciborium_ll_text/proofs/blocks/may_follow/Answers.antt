use Rattle.std.proofs.Common.{ℕ, ◌∙◌, refl}
use Rattle.std.proofs.lemmas.Simd.{get_or-replicate}
use Rattle.ciborium_ll_text.proofs.BlockLaws.{steps_are}
use Rattle.ciborium_ll_text.proofs.blocks.may_follow.Goals as goal

pub returns : goal.returns
returns c t =
    steps_are c.args.third_last c.args.second_last c.args.last c.args.bytes _ _ _
    c.fits-third_last c.fits-second_last c.fits-last c.fits-bytes
    c.classes-pair.ensures.len c.excess-third.ensures.len c.excess-fourth.ensures.len c.classes-pair.ensures.lanes
    (λ i h. c.excess-third.ensures.lanes i h ∙ rw (get_or-replicate {A = ℕ} 16 i 96 0 h) refl)
    (λ i h. c.excess-fourth.ensures.lanes i h ∙ rw (get_or-replicate {A = ℕ} 16 i 112 0 h) refl)
    (c.is_zero.ensures t)
