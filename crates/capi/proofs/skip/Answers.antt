use Rattle.std.proofs.Common.{refl, arith}
use Rattle.ciborium_ll_decoder.specs.Decoding.{spelling_of}
use Rattle.ciborium_ll_decoder.proofs.PremiseLaws.{fresh_can_read}
use Rattle.capi.proofs.SkipLaws.{skip_exactly, skip_said}
use Rattle.capi.proofs.skip.Goals as goal

pub returns : goal.returns
returns c =
    let due = c.args.bytes.now in
    let old = c.from-decoder.result in
    let new = c.skip_item-skipped.new.decoder in
    let skipped = c.skip_item-skipped.result in
    let stop = c.stop_of_skip-answer in
    record {
      skipped = skip_said _ c.args.depth due old new skipped c.say.new.self stop.result.0 stop.result.1 c.offset.result
          (c.skip_item-skipped.ensures.told due
          (fresh_can_read _ 1024 c.new.result old due c.from-decoder.ensures refl c.new.ensures.ahead
          (omega arith) (omega arith)))
          c.from-decoder.ensures.mode c.from-decoder.ensures.offset stop.ensures.answer stop.ensures.place c.offset.ensures.value c.say.ensures;
      exactly = skip_exactly (spelling_of old) c.args.depth due skipped stop.result.0 stop.ensures.answer
          (c.skip_item-skipped.ensures.exactly due
          (fresh_can_read _ 1024 c.new.result old due c.from-decoder.ensures refl c.new.ensures.ahead
          (omega arith) (omega arith))) c.from-decoder.ensures.mode;
    }
