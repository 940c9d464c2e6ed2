use Rattle.std.proofs.Common.{◌++◌, codes, refl}
use Rattle.std.proofs.lemmas.Grind.{put_two}
use Rattle.cbor_dump.specs.RowTexts.{digits_text}
use Rattle.cbor_dump.proofs.RowTextLaws.{bytes_fit}
use Rattle.cbor_dump.proofs.rows.bytes_key.Goals as goal

pub returns : goal.returns
returns g c = λ plain ok.
    let bytes = c.args.bytes.now in
    let first = c.in_ok-write_str.ensures.writes plain refl in
    put_two g.W.Write.write_str_gives _ _ _ (codes "h'") (digits_text bytes ++ codes "'") _ first
    (c.digits.ensures first.plain ok) (bytes_fit c.args.most bytes c.if-bytes-most.false)
