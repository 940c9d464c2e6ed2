use Rattle.capi.proofs.PullLaws.{pulled_front}
use Rattle.capi.proofs.pull_any.Goals as goal

pub returns-in-Ok : goal.returns-in-Ok
returns-in-Ok c =
    pulled_front _ c.new.result c.args.bytes.now c.in-Ok.pulled c.from-decoder.result c.pull_title-pulled.new.decoder
    c.of_title-parts.result c.offset.result c.offset.ensures.value c.in-Ok.ensures.header c.from-decoder.ensures
    c.new.ensures.ahead c.of_title-parts.ensures
