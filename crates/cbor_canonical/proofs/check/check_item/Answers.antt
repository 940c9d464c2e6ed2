use Rattle.std.proofs.Common.{refl, arith}
use Rattle.ciborium_ll_decoder.proofs.PremiseLaws.{fresh_can_read}
use Rattle.cbor_canonical.proofs.CanonicalLaws.{refusal_said}
use Rattle.cbor_canonical.proofs.check.check_item.Goals as goal

pub returns : goal.returns
returns c =
    let due = c.args.bytes.now in
    let old = c.from-decoder.result in
    refusal_said _ c.args.depth c.offset.result due old c.skip_item-skipped.new.decoder c.skip_item-skipped.result
    c.refusal_of.result (c.skip_item-skipped.ensures.told due
    (fresh_can_read _ 256 c.new.result old due c.from-decoder.ensures refl c.new.ensures.ahead (omega arith)
    (omega arith))) c.from-decoder.ensures.mode c.from-decoder.ensures.offset
    c.offset.ensures.value c.refusal_of.ensures
