use Rattle.cbor_encode.proofs.LooseLaws.{any_result}
use Rattle.cbor_encode.proofs.encode.Goals as goal

pub returns-clause-item : goal.returns-clause-item
returns-clause-item c =
    any_result _ c.args.depth (λ bytes. bytes.items) c.one_item.result c.one_item.ensures.item
