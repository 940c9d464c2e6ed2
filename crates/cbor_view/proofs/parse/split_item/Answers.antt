use Rattle.std.proofs.Common.{refl, arith}
use Rattle.ciborium_ll_decoder.specs.Decoding.{spelling_of}
use Rattle.ciborium_ll_decoder.proofs.PremiseLaws.{fresh_can_read}
use Rattle.cbor_view.proofs.ParseLaws.{told_of_bytes, told_fault}
use Rattle.cbor_view.proofs.parse.split_item.Goals as goal

pub fault_of-requires : goal.fault_of-requires
fault_of-requires c =
    let due = c.args.bytes.now in
    let old = c.from-decoder.result in
    told_of_bytes _ (spelling_of old) c.args.depth due old c.skip_item.new.decoder c.in-Err.error
    c.from-decoder.ensures.mode
    (c.in-Err.ensures.told due
    (fresh_can_read _ 64 c.new.result old due c.from-decoder.ensures refl c.new.ensures.ahead (omega arith)
    (omega arith)))

pub returns-in-Err-clause-fault : goal.returns-in-Err-clause-fault
returns-in-Err-clause-fault c =
    let due = c.args.bytes.now in
    let old = c.from-decoder.result in
    told_fault _ (spelling_of old) c.args.depth due old c.skip_item.new.decoder c.in-Err.error c.fault_of.result
    c.from-decoder.ensures.mode
    (c.in-Err.ensures.told due
    (fresh_can_read _ 64 c.new.result old due c.from-decoder.ensures refl c.new.ensures.ahead (omega arith)
    (omega arith)))
    c.from-decoder.ensures.offset c.fault_of.ensures
