use Rattle.cbor_encode.proofs.DamageLaws.{none_damaged}
use Rattle.cbor_encode.proofs.LooseLaws.{any_sequence}
use Rattle.cbor_encode.proofs.encode_all.Goals as goal

pub returns-in-Ok-clause-items : goal.returns-in-Ok-clause-items
returns-in-Ok-clause-items c = any_sequence _ c.args.depth c.in-Ok.bytes.items c.in-Ok.ensures.items

pub located-requires-in-Err-read_sequence-clause-damage : goal.located-requires-in-Err-read_sequence-clause-damage
located-requires-in-Err-read_sequence-clause-damage c =
    none_damaged c.args.text.now c.in-Err-read_sequence.stop c.in_default.ensures.text
