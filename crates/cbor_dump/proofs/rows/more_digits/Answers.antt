use Rattle.std.proofs.Common.{◌∷◌, get_or, refl, sym, take}
use Rattle.ciborium_ll_text.specs.Digits.{hex_text}
use Rattle.cbor_dump.specs.RowTexts.{more_text}
use Rattle.cbor_dump.proofs.RowTextLaws.{more_at, text_is, then_written}
use Rattle.cbor_dump.proofs.rows.more_digits.Goals as goal

pub bytes-preserved : goal.bytes-preserved
bytes-preserved g c =
    let took = g.W.Write.write_str_gives in
    let xs = c.args.bytes.now in
    let at = c.bytes.byte-index in
    then_written took _ _ _ (more_text (take at xs)) (32 ∷ hex_text (get_or xs at 0)) _ c.bytes.invariant
    (λ plain. text_is took _ _ _ _ c.digits_behind.ensures (c.in_ok-write_str.ensures.writes plain refl))
    (sym (more_at xs at c.bytes-test.true))
