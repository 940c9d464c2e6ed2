use Rattle.std.proofs.Common.{ap, ◌∙◌}
use Rattle.tool_lines.specs.Raw.{Tells}
use Rattle.tool_lines.proofs.RawLaws.{handed_on, raw_any, told_ahead}
use Rattle.tool_lines.proofs.raw.copy_elements.Goals as goal

pub returns : goal.returns
returns g c = λ due written told-due told-written.
    let ahead = g.R.Read.ahead in
    let contents = g.W.Write.written in
    let old = c.from-decoder.result in
    let new = c.recode-copied.new.decoder in
    let first = c.from-encoder.result.writer in
    let last = c.recode-copied.new.encoder.writer in
    let told = told_ahead g.R.Read g.W.Write old first due written c.from-decoder.ensures.mode
    c.from-decoder.ensures.none_waits (ap ahead c.from-decoder.ensures.reader ∙ told-due)
    (ap contents c.from-encoder.ensures ∙ told-written) in
    let copies = raw_any g.R.Read g.W.Write c.args.count due written old new first last c.from-decoder.ensures.offset
    c.from-decoder.ensures.none_waits c.recode-copied.result c.recode-copied.ensures.copied.copied
    (c.recode-copied.ensures.anyhow _ due written told) in
    handed_on (Tells ahead) (Tells ahead) (Tells contents) (Tells contents) new.reader c.into_inner-reader.result last
    c.into_inner-writer.result (λ bytes is. ap ahead c.into_inner-reader.ensures ∙ is)
    (λ bytes is. ap contents c.into_inner-writer.ensures ∙ is) c.args.count due written c.recode-copied.result copies
