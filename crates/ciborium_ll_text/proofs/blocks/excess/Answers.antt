use Rattle.std.proofs.Common.{sym, ◌∙◌, arith}
use Rattle.simdutf8.proofs.Lanes.{excess_len, excess_at}
use Rattle.ciborium_ll_text.proofs.blocks.excess.Goals as goal

pub returns-clause-lanes : goal.returns-clause-lanes
returns-clause-lanes c i h =
    excess_at c.args.bytes c.args.others i (omega (arith, c.fits-bytes.0))
    (omega (arith, c.fits-others.0)) c.fits-bytes.1 c.fits-others.1

pub returns-clause-len : goal.returns-clause-len
returns-clause-len c =
    excess_len c.args.bytes c.args.others (c.fits-bytes.0 ∙ sym c.fits-others.0) ∙ c.fits-bytes.0
