use Rattle.std.proofs.Common.{◌*◌, refl}
use Rattle.cbor_dump.specs.RowTexts.{blank}
use Rattle.cbor_dump.proofs.RowTextLaws.{one_level_more, then_written}
use Rattle.cbor_dump.proofs.rows.write_indent.Goals as goal

pub levels-preserved : goal.levels-preserved
levels-preserved g c =
    then_written g.W.Write.write_str_gives _ _ _ (blank (3 * c.levels._level)) (blank 3) _ c.levels.invariant
    (λ plain. c.in_ok-write_str.ensures.writes plain refl) (one_level_more c.levels._level)
