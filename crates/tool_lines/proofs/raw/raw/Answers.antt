use Rattle.std.proofs.Common.{ap, ◌∙◌}
use Rattle.tool_lines.specs.Raw.{Tells}
use Rattle.tool_lines.proofs.RawLaws.{flushed_on, kept_known}
use Rattle.tool_lines.proofs.raw.raw.Goals as goal

pub returns : goal.returns
returns g c = λ due written told-due told-written.
    let remaining = g.R.Read.remaining in
    let contents = g.W.Write.contents in
    let source = c.copy_elements-reader.result.0 in
    let sink = c.copy_elements-reader.result.1 in
    let copies = c.copy_elements-reader.ensures due written (ap remaining c.new.ensures.source ∙ told-due)
    (ap contents c.new-2.ensures.sink ∙ told-written) in
    rw c.outcome_of-outcome.ensures (flushed_on _ (Tells remaining) _ (Tells contents) source c.into_inner.result sink
    c.into_inner-2.result (λ bytes is. ap remaining c.into_inner.ensures ∙ is)
    (λ bytes is. ap contents c.into_inner-2.ensures ∙ kept_known _ _ bytes c.flush-flushed.ensures.keeps is)
    c.args.count due written c.copy_elements-reader.result.2 c.flush-flushed.result copies)
