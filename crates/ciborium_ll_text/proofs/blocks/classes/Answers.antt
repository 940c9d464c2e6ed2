use Rattle.ciborium_ll_text.proofs.BlockLaws.{classes_are}
use Rattle.ciborium_ll_text.proofs.blocks.classes.Goals as goal

pub returns : goal.returns
returns c =
    let r = classes_are c.args.first c.args.second _ _ _ c.fits-first c.fits-second c.by_first_high.ensures
    c.by_first_low.ensures c.by_second_high.ensures in
    record { len = r.0; lanes = r.1 }
