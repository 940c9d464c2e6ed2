use Rattle.std.proofs.Common.{refl, arith}
use Rattle.ciborium_ll_decoder.proofs.PremiseLaws.{fresh_can_read}
use Rattle.cbor_embedded.proofs.EmbeddedLaws.{none_exactly, one_exactly}
use Rattle.cbor_embedded.proofs.is_one_item.Goals as goal

pub returns-in-Ok : goal.returns-in-Ok
returns-in-Ok c =
    let due = c.args.body.now in
    let decoder = c.with_spelling-decoder in
    one_exactly _ c.args.spelling _ c.args.depth due decoder.ensures.mode decoder.result
    c.skip_item.new.decoder c.offset.result (c.in-Ok.ensures.told due
    (fresh_can_read _ 64 c.new-reader.result decoder.result due decoder.ensures refl c.new-reader.ensures.ahead
    (omega arith) (omega arith))) decoder.ensures.offset c.offset.ensures.value

pub returns-in-Err : goal.returns-in-Err
returns-in-Err c =
    let due = c.args.body.now in
    let decoder = c.with_spelling-decoder in
    none_exactly c.args.spelling _ c.args.depth due decoder.ensures.mode c.in-Err.field-0
    (c.in-Err.ensures.exactly due (fresh_can_read _ 64 c.new-reader.result decoder.result due decoder.ensures refl
    c.new-reader.ensures.ahead (omega arith) (omega arith)))
