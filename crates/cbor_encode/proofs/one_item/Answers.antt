use Rattle.cbor_encode.proofs.DamageLaws.{none_damaged}
use Rattle.cbor_encode.proofs.one_item.Goals as goal

pub located-requires-in-Err-read_one-clause-damage : goal.located-requires-in-Err-read_one-clause-damage
located-requires-in-Err-read_one-clause-damage c =
    none_damaged c.args.text.now c.in-Err-read_one.stop c.in_default.ensures.text
