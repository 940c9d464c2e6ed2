use Rattle.std.proofs.Common.{◌∙◌, ap, refl}
use Rattle.cbor_dump.proofs.RowTextLaws.{text_or_none}
use Rattle.cbor_dump.proofs.rows.text_of.Goals as goal

pub returns : goal.returns
returns c = ap (λ s. s.now) c.unwrap_or.ensures
    ∙ text_or_none _ (λ s. s.now) c.args.bytes.now c.from_utf8.result _ c.from_utf8.ensures.cases refl
